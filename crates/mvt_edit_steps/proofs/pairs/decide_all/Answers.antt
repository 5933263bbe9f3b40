use Rattle.std.proofs.Common.{◌≡◌, ℕ, ◌+◌, ◌≤◌, Bool, List, [], ◌∷◌, ◌++◌, Option, Some, Ok, Err, cond, is_some, length, length-append, option_map, append_assoc, inl, inr, refl, sym, ap, ◌∙◌, arith}
use Rattle.mvt_document.proofs.Options.{none_is}
use Rattle.std.proofs.lemmas.Bool.{cases_Bool}
use Rattle.std.proofs.lemmas.Fn.{says}
use Rattle.std.proofs.lemmas.List.{append-nil}
use Rattle.mvt_messages.specs.Numbers.{and_more}
use Rattle.mvt_messages.specs.Seen.{placed_of}
use Rattle.mvt_layers.specs.Seen.{pair_seen}
use Rattle.mvt_messages.specs.Tags.{plain_pairs}
use Rattle.mvt_layers.proofs.Pairing.{plain_more}
use Rattle.mvt_edit_steps.specs.Decided.{counted_by, decided_by}
use Rattle.mvt_edit_steps.proofs.Deciding.{counted_after, counted_more, counted_none, decided_after, decided_more, decided_none, more_some}
use Rattle.mvt_edit_steps.proofs.pairs.decide_all.Goals as goal

pub loop-tags-init : goal.loop-tags-init
loop-tags-init g c =
    let read = c.into_iter-tags-iterator.ensures.into_iter_gives ∙ c.tag_pairs-tags-items.ensures in
    let left = plain_pairs c.into_iter-tags-iterator.result in
    record {
      decided = λ said means. record {
        decided = ap (λ (list : List (Option ℕ)). option_map (decided_after said list) left) c.clear.ensures.items ∙ decided_none said left ∙ ap (λ found. option_map (decided_by said) (plain_pairs found)) read;
        counted = counted_none said left ∙ ap (λ found. option_map (counted_by said) (plain_pairs found)) read;
      };
      read = ap (λ found. is_some (plain_pairs found)) read;
      few = omega arith;
    }

pub loop-tags-preserved : goal.loop-tags-preserved
loop-tags-preserved g c =
    let found = c.in_ok-pair.field-0 in
    let pair = pair_seen found.pair in
    let rest = plain_pairs c.next.new.self in
    let front = c.loop-tags.decisions.items in
    let made = c.decide-key.result in
    let read : c.loop-tags.tags-iterator ≡ Ok (pair, (placed_of found.key, placed_of found.value)) ∷ c.next.new.self = rw c.in_ok-pair.was at c.in-Some.ensures.steps in
    let step : plain_pairs c.loop-tags.tags-iterator ≡ and_more pair rest = ap plain_pairs read ∙ plain_more (pair, (placed_of found.key, placed_of found.value)) c.next.new.self in
    let pushed : c.push_reserved-in-loop-tags.new.self.items ≡ front ++ made.0 ∷ made.1 ∷ [] = c.push_reserved-in-loop-tags.ensures.items ∙ ap (λ list. list ++ made.1 ∷ []) (c.push_reserved.ensures.items ∙ ap (λ list. list ++ made.0 ∷ []) c.reserve.ensures.items) ∙ append_assoc front (made.0 ∷ []) (made.1 ∷ []) in
    let counted : c.from.result ≡ cond made.2 1 0 =
    elim (cases_Bool made.2) [
      | inl counts ↦ (let one : c.from.result ≡ 1 = rw counts at c.from.ensures in rw counts one)
      | inr other ↦ (let none : c.from.result ≡ 0 = rw other at c.from.ensures in rw other none)
    ] in
    record {
      decided = λ said means.
          let is : made ≡ said pair = means found.pair made (says g.D.Fn c.decide-key.ensures refl) in
          let so_far = c.loop-tags.invariant.decided said means in
          record {
            decided = ap (λ (list : List (Option ℕ)). option_map (decided_after said list) rest) (pushed ∙ ap (λ (d : Option ℕ × Option ℕ × Bool). front ++ d.0 ∷ d.1 ∷ []) is)
                ∙ sym (decided_more said front pair rest)
                ∙ ap (option_map (decided_after said front)) (sym step)
                ∙ so_far.decided;
            counted = ap (λ n. option_map (counted_after said (c.loop-tags.count + n)) rest) (counted ∙ ap (λ (d : Option ℕ × Option ℕ × Bool). cond d.2 1 0) is)
                ∙ sym (counted_more said c.loop-tags.count pair rest)
                ∙ ap (option_map (counted_after said c.loop-tags.count)) (sym step)
                ∙ so_far.counted;
          };
      read = sym (ap (λ found. is_some found) step ∙ more_some pair rest) ∙ c.loop-tags.invariant.read;
      few = (
          let long = ap length pushed ∙ length-append front (made.0 ∷ made.1 ∷ []) in
          let most : cond made.2 1 0 ≤ 1 = elim (cases_Bool made.2) [ inl counts ↦ rw counts (omega arith) | inr other ↦ rw other (omega arith) ] in
          let so_far = c.loop-tags.invariant.few in
          omega (arith, long, counted, most, so_far)
          );
    }

pub returns-in_err-pair-clause-bad_tags : goal.returns-in_err-pair-clause-bad_tags
returns-in_err-pair-clause-bad_tags g c = λ bad.
    let read : c.loop-tags.tags-iterator ≡ Err tt ∷ c.next.new.self = rw c.in_err-pair.was at c.in-Some.ensures.steps in
    none_is _ (sym c.loop-tags.invariant.read ∙ ap (λ left. is_some (plain_pairs left)) read)

pub returns-clause-decided : goal.returns-clause-decided
returns-clause-decided g c = λ said means.
    let so_far = c.loop-tags.invariant.decided said means in
    let none = c.in-None.ensures.steps.0 in
    let decisions = c.loop-tags.decisions.items in
    let count = c.loop-tags.count in
    let all : count + 0 ≡ count = omega arith in
    record {
      decided = sym so_far.decided ∙ ap (λ left. option_map (decided_after said decisions) (plain_pairs left)) none ∙ ap Some (append-nil decisions);
      counted = sym so_far.counted ∙ ap (λ left. option_map (counted_after said count) (plain_pairs left)) none ∙ ap Some all;
    }
