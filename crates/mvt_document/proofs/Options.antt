-- What holds of the value of an option, and of what is made of it.
use Rattle.std.proofs.Common.{◌≡◌, Option, Some, None, option_map, sym, subst, is_some, true, false, refl}
use Rattle.std.specs.Option.{IfSome, IsSomeAnd}

module _ {X : Type 0} where
  -- what holds of an option if its value is one of which this holds
  pub where_some : (o : Option X) (P : X → Type 0) (Q : Option X → Type 0) → ((x : X) → P x → Q (Some x)) → IsSomeAnd o P → Q o
  where_some None P Q each there = absurd there
  where_some (Some x) P Q each there = each x there

  pub some_each : (o : Option X) (P Q : X → Type 0) → ((x : X) → P x → Q x) → IsSomeAnd o P → IsSomeAnd o Q
  some_each None P Q each there = absurd there
  some_each (Some x) P Q each there = each x there

  pub if_each : (o : Option X) (P Q : X → Type 0) → ((x : X) → P x → Q x) → IsSomeAnd o P → IfSome o Q
  if_each None P Q each there = tt
  if_each (Some x) P Q each there = each x there

  pub if_both : (o : Option X) (P Q R : X → Type 0) → ((x : X) → P x → Q x → R x) → IfSome o P → IsSomeAnd o Q → IfSome o R
  if_both None P Q R each good there = tt
  if_both (Some x) P Q R each good there = each x good there

  pub some_mapped : {Y : Type 0} (f : X → Y) (o : Option X) (P : X → Type 0) (Q : Y → Type 0) → ((x : X) → P x → Q (f x)) → IsSomeAnd o P → IsSomeAnd (option_map f o) Q
  some_mapped f None P Q each there = absurd there
  some_mapped f (Some x) P Q each there = each x there

  pub mapped_some : {Y : Type 0} (f : X → Y) (o : Option X) (P : X → Type 0) (Q : Y → Type 0) → ((x : X) → Q (f x) → P x) → IsSomeAnd (option_map f o) Q → IsSomeAnd o P
  mapped_some f None P Q each there = absurd there
  mapped_some f (Some x) P Q each there = each x there

  pub if_kept : (o : Option X) (P : X → Type 0) (x : X) → IfSome o (λ kept. kept ≡ x) → P x → IfSome o P
  if_kept None P x same holds = tt
  if_kept (Some kept) P x same holds = subst P (sym same) holds

  pub if_known : (kept known : Option X) (P : X → Type 0) → IfSome kept (λ x. known ≡ Some x) → IfSome known P → IfSome kept P
  if_known None known P same holds = tt
  if_known (Some kept) known P same holds = subst (λ o. IfSome o P) same holds

-- ---- whether there is one

pub none_is : {A : Type 0} (found : Option A) → is_some found ≡ false → found ≡ None
none_is None is = refl
none_is (Some x) is = absurd cc

pub some_is : {A : Type 0} (found : Option A) → is_some found ≡ true → (x : A) × (found ≡ Some x)
some_is None is = absurd cc
some_is (Some x) is = (x, refl)
