-- What a source supplied, over several calls.
use Rattle.std.proofs.Common.{◌≡◌, ◌≢◌, ℕ, ◌+◌, ◌-◌, ◌<◌, IsTrue, true, false, List, [], ◌++◌, length, take, sym, ap, subst, ◌∙◌, refl, append-nil, cond, min, length-append, arith, Some, None, ◌≤◌}
use Rattle.std.specs.Prelude.{Bool, Result, Ok, Err, nat_lt, ◌&&◌, ◌==◌}
use Rattle.std.proofs.KnownBytes.{Consumes-nil, Consumes-trans, Consumes-kept}
use Rattle.std.specs.declared.vec.Vec.{Vec}
use Rattle.std.specs.declared.alloc.Global.{Global}
use Rattle.std.proofs.lemmas.List.{take-append-le, length-take}
use Rattle.std.proofs.lemmas.Bool.{and_from, eq-eqb, ne_eqb, lt-ltb, le-ltb, eqb-true, ltb-true}
use Rattle.std.specs.Io.KnownBytes.{Keeps, Consumes, IsAtEnd}
use Rattle.tile_device.specs.Device.{interruptions_after, failures_after}
use Rattle.tile_device.specs.declared.device.Trouble.{Trouble}
use Rattle.tile_device.specs.declared.device.Trouble.TheVariants.{Interrupted}
use Rattle.tile_device.specs.Seen.{Seen, Intake, Reads, Supplies, Pays, nothing_read}
use Rattle.tile_device.specs.Transfer.{ReadsUpTo, piece_of}
use Rattle.tile_device.specs.declared.transfer.ReadFault.{ReadFault}
use Rattle.tile_device.specs.declared.transfer.ReadFault.TheVariants.{Device, NoMemory}
use Rattle.tile_device.proofs.Meeting.{meets_nothing, meets_then, meets_call, meets_interrupted, none_left}

-- these bytes, not known to be all, without trouble, and `retries` calls were made again
abbrev pub part : ℕ → List ℕ → Intake
part retries bytes = record { bytes = bytes; is_whole = false; retries = retries; trouble = None }

pub supplies_nothing : (s : Seen) → Supplies s s nothing_read
supplies_nothing s = record { meets = meets_nothing s; bytes = λ told. Consumes-nil s.bytes; whole = λ told h. absurd cc }

-- a reading that went through, and then another
pub supplies_more : (a b c : Seen) (n retries : ℕ) (bytes : List ℕ) (intake : Intake) → retries ≡ n + intake.retries → Supplies a b (part n bytes) → Supplies b c intake
    → Supplies a c (record { bytes = bytes ++ intake.bytes; is_whole = intake.is_whole; retries = retries; trouble = intake.trouble })
supplies_more a b c n retries bytes intake sum first second = record {
  meets = meets_then a b c n intake.retries retries intake.trouble sum first.meets second.meets;
  bytes = λ told. Consumes-trans a.bytes b.bytes c.bytes bytes intake.bytes (first.bytes (second.meets.still_tells told)) (second.bytes told);
  whole = second.whole;
}

-- and the budget that paid for both
reads_more : (a b c : Seen) (n m k : ℕ) (bytes : List ℕ) (intake : Intake) → Reads a b n m (part (n - m) bytes) → Reads b c m k intake
    → Reads a c n k (record { bytes = bytes ++ intake.bytes; is_whole = intake.is_whole; retries = n - k; trouble = intake.trouble })
reads_more a b c n m k bytes intake first second =
    let sum : n - k ≡ (n - m) + intake.retries = omega (arith, first.pays.spent, second.pays.spent) in
    record {
      supplies = supplies_more a b c (n - m) (n - k) bytes intake sum first.supplies second.supplies;
      pays = record { spent = omega (arith, first.pays.spent, second.pays.spent); last = second.pays.last };
    }

-- nothing was read at first
pub reads_nothing : (s : Seen) (left : ℕ) (bytes : List ℕ) → bytes ≡ [] → Reads s s left left (part (left - left) bytes)
reads_nothing s left bytes e =
    let none : left - left ≡ 0 = omega arith in
    rw (e, none) (record { supplies = supplies_nothing s; pays = record { spent = omega arith; last = λ e. absurd cc } })

-- and all of the room is left
pub all_room : (limit : ℕ) (bytes : List ℕ) → bytes ≡ [] → length bytes + limit ≡ limit
all_room limit bytes e = omega (arith, ap length e)

-- ---- one read, which is made again while it is interrupted

reads_one : (a b c : Seen) (n m k : ℕ) (intake : Intake) → Reads a b n m (part (n - m) []) → Supplies b c intake → Pays m k intake.retries intake.trouble
    → Reads a c n k (record { bytes = intake.bytes; is_whole = intake.is_whole; retries = n - k; trouble = intake.trouble })
reads_one a b c n m k intake first supplies pays = reads_more a b c n m k [] intake first (record { supplies = supplies; pays = pays })

keeps_all : (b c : Seen) → (IsTrue c.tells → Keeps b.bytes c.bytes) → IsTrue c.tells → Consumes b.bytes c.bytes []
keeps_all b c kept told = Consumes-kept b.bytes b.bytes c.bytes [] (Consumes-nil b.bytes) (kept told)

-- an interrupted read is made again
pub reads_again : (a b c : Seen) (n m k : ℕ) (trouble : Trouble) → Reads a b n m (part (n - m) []) → trouble ≡ Interrupted → m ≡ k + 1
    → c.interruptions ≡ interruptions_after (Some trouble) b.interruptions → c.failures ≡ failures_after (Some trouble) b.failures
    → (IsTrue c.tells → IsTrue b.tells) → (IsTrue c.tells → Keeps b.bytes c.bytes) → Reads a c n k (part (n - k) [])
reads_again a b c n m k trouble reads is paid i f still kept =
    reads_one a b c n m k (part 1 []) reads (record { meets = meets_interrupted b c trouble is i f still; bytes = keeps_all b c kept; whole = λ told h. absurd cc })
    (record { spent = sym paid; last = λ e. absurd cc })

-- a trouble ends the reading
pub reads_stopped : (a b c : Seen) (n m k : ℕ) (buffer : List ℕ) (trouble : Trouble) (r : Result ℕ Trouble) → Reads a b n m (part (n - m) []) → r ≡ Err trouble → k ≡ m
    → ((trouble ≡ Interrupted) × (0 < m) → false ≡ true) → c.interruptions ≡ interruptions_after (Some trouble) b.interruptions → c.failures ≡ failures_after (Some trouble) b.failures
    → (IsTrue c.tells → IsTrue b.tells) → (IsTrue c.tells → Keeps b.bytes c.bytes) → Reads a c n k (piece_of r buffer (n - k))
reads_stopped a b c n m k buffer trouble r reads is same ends i f still kept =
    subst (λ (r : Result ℕ Trouble). Reads a c n k (piece_of r buffer (n - k))) (sym is)
    (reads_one a b c n m k (piece_of (Err trouble) buffer 0) reads (record { meets = meets_call b c 0 (Some trouble) refl i f still; bytes = keeps_all b c kept; whole = λ told h. absurd cc })
    (record { spent = omega (arith, same); last = none_left trouble m k same ends }))

both : (p q : Bool) → (p && q) ≡ true → (p ≡ true) × (q ≡ true)
both true q e = (refl, e)
both false q e = absurd cc

-- a read that met no trouble
pub reads_through : (a b c : Seen) (n m count : ℕ) (buffer : List ℕ) → Reads a b n m (part (n - m) [])
    → c.interruptions ≡ interruptions_after None b.interruptions → c.failures ≡ failures_after None b.failures → (IsTrue c.tells → IsTrue b.tells)
    → (IsTrue c.tells → Consumes b.bytes c.bytes (take count buffer) × (count ≡ 0 → 0 < length buffer → IsAtEnd c.bytes)) → Reads a c n m (piece_of (Ok count) buffer (n - m))
reads_through a b c n m count buffer reads i f still bytes =
    reads_one a b c n m m (piece_of (Ok count) buffer 0) reads (record {
      meets = meets_call b c 0 None refl i f still;
      bytes = λ told. (bytes told).0;
      whole = λ told h. let ends = both (count == 0) (nat_lt 0 (length buffer)) h in (bytes told).1 (eqb-true count 0 ends.0) (ltb-true 0 (length buffer) ends.1);
    }) (record { spent = omega arith; last = λ e. absurd cc })

-- one more piece was read, which is not the end
pub reading_goes_on : (a b c : Seen) (n m k count : ℕ) (bytes buffer now : List ℕ) → Reads a b n m (part (n - m) bytes) → Reads b c m k (piece_of (Ok count) buffer (m - k))
    → count ≢ 0 → now ≡ bytes ++ take count buffer → Reads a c n k (part (n - k) now)
reading_goes_on a b c n m k count bytes buffer now first second some e =
    let going : ((count == 0) && nat_lt 0 (length buffer)) ≡ false = ap (λ (q : Bool). q && nat_lt 0 (length buffer)) (ne_eqb count 0 some) in
    let more = reads_more a b c n m k bytes (piece_of (Ok count) buffer (m - k)) first second in
    rw e (subst (λ (q : Bool). Reads a c n k (record { bytes = bytes ++ take count buffer; is_whole = q; retries = n - k; trouble = None })) going more)

-- its bytes come after those that were read before
pub taken_in : (bytes old now buffer more : List ℕ) (count : ℕ) (done : Bool) → now ≡ cond done (old ++ take count (buffer ++ more)) old → done ≡ true → old ≡ bytes → count ≤ length buffer → now ≡ bytes ++ take count buffer
taken_in bytes old now buffer more count done e is same le = e ∙ rw (is, same, take-append-le) refl

-- and less room is left
pub less_room : (bytes buffer piece now : List ℕ) (count room size limit : ℕ) → now ≡ bytes ++ take count buffer → count ≤ length buffer → length buffer ≡ length (take size piece) → size ≡ min room 16384
    → length bytes + room ≡ limit → length now + (room - count) ≡ limit
less_room bytes buffer piece now count room size limit e le long is sum =
    omega (arith, ap length e, length-append bytes (take count buffer), length-take count buffer, length-take size piece)

pub within_limit : (bytes : List ℕ) (room limit : ℕ) → length bytes + room ≡ limit → length bytes ≤ limit
within_limit bytes room limit sum = omega (arith, sum)

pub below_limit : (bytes : List ℕ) (room limit : ℕ) → length bytes + room ≡ limit → 0 < room → length bytes < limit
below_limit bytes room limit sum some = omega (arith, sum, some)

-- what a reading up to a limit returns, and what it read
abbrev pub Reading : Seen → Seen → ℕ → ℕ → ℕ → Result (Vec ℕ Global) ReadFault → Type 0
Reading old new before after limit result = (intake : Intake) × ReadsUpTo limit result intake × Reads old new before after intake

-- it met trouble after these bytes, which are lost
pub reading_stopped : (a b c : Seen) (n m k limit : ℕ) (bytes : List ℕ) (trouble : Trouble) (result : Result (Vec ℕ Global) ReadFault)
    → Reads a b n m (part (n - m) bytes) → Reads b c m k (record { bytes = []; is_whole = false; retries = m - k; trouble = Some trouble })
    → length bytes ≤ limit → result ≡ Err (Device trouble) → Reading a c n k limit result
reading_stopped a b c n m k limit bytes trouble result first second le is =
    subst (Reading a c n k limit) (sym is) (
      record { bytes = bytes ++ []; is_whole = false; retries = n - k; trouble = Some trouble },
      record { bytes = tt; at_most = rw append-nil le; is_whole = refl; trouble = refl },
      reads_more a b c n m k bytes (record { bytes = []; is_whole = false; retries = m - k; trouble = Some trouble }) first second,
    )

-- it ended with a read that gave none, with room for one
pub reading_ended : (a b c : Seen) (n m k limit count : ℕ) (bytes buffer : List ℕ) (read : Vec ℕ Global)
    → Reads a b n m (part (n - m) bytes) → Reads b c m k (piece_of (Ok count) buffer (m - k))
    → count ≡ 0 → 0 < length buffer → length bytes < limit → read.items ≡ bytes → Reading a c n k limit (Ok read)
reading_ended a b c n m k limit count bytes buffer read first second none some below same =
    let joined : bytes ++ take count buffer ≡ bytes = ap (λ (t : ℕ). bytes ++ take t buffer) none ∙ append-nil bytes in
    let short : length (bytes ++ take count buffer) < limit = omega (arith, ap length joined) in (
      record { bytes = bytes ++ take count buffer; is_whole = (count == 0) && nat_lt 0 (length buffer); retries = n - k; trouble = None },
      record {
        bytes = joined ∙ sym same;
        at_most = omega arith;
        is_whole = and_from _ _ (eq-eqb count 0 none) (lt-ltb 0 (length buffer) some) ∙ sym (lt-ltb _ limit short);
        trouble = refl;
      },
      reads_more a b c n m k bytes (piece_of (Ok count) buffer (m - k)) first second,
    )

-- there was no memory for more: what was read is lost
pub reading_refused : (a b : Seen) (n m limit room : ℕ) (bytes : List ℕ) (result : Result (Vec ℕ Global) ReadFault)
    → Reads a b n m (part (n - m) bytes) → length bytes + room ≡ limit → result ≡ Err NoMemory → Reading a b n m limit result
reading_refused a b n m limit room bytes result reads sum is =
    subst (Reading a b n m limit) (sym is) (part (n - m) bytes, record { bytes = tt; at_most = omega (arith, sum); is_whole = refl; trouble = refl }, reads)

-- it ended at the limit
pub reading_full : (a b : Seen) (n m limit room : ℕ) (read : Vec ℕ Global) → Reads a b n m (part (n - m) read.items) → length read.items + room ≡ limit → room ≤ 0 → Reading a b n m limit (Ok read)
reading_full a b n m limit room read reads sum none =
    let full : limit ≤ length read.items = omega (arith, sum, none) in
    (part (n - m) read.items, record { bytes = refl; at_most = omega (arith, sum); is_whole = sym (le-ltb (length read.items) limit full); trouble = refl }, reads)
