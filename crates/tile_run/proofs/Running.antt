-- The lines of a script, carried out and replied to.
use Rattle.std.proofs.Common.{◌≡◌, ℕ, ◌+◌, ◌-◌, Bool, true, false, ◌||◌, ◌&&◌, List, [], ◌∷◌, ◌++◌, Some, None, refl, sym, ap, ap₂, subst, ◌∙◌, append-nil}
use Rattle.std.specs.Prelude.{Result, Ok, Err, is_err}
use Rattle.std.proofs.Math.Bool.{or-true, or-false}
use Rattle.std.proofs.lemmas.Bool.{and_right}
use Rattle.mvt_document.specs.Held.{Held}
use Rattle.tile_device.specs.Device.{trouble_of}
use Rattle.tile_device.specs.Seen.{Output, Writes}
use Rattle.tile_device.specs.declared.device.Trouble.{Trouble}
use Rattle.mvt_history_steps.specs.History.{History}
use Rattle.tile_course.specs.Replies.{reply_to}
use Rattle.tile_course.specs.Run.{Progress, is_over, MayFollow, Walk}
use Rattle.mvt_history_steps.specs.Session.{StandsFor}
use Rattle.tile_course.specs.Course.{IsCutShort}
use Rattle.tile_run.specs.Steps.{Moment, Replies, answered, printed_in, settled, ends_line, CarriesOut, IsAt, Advances, AnswersLine, Falters, Comes, ComesTo}
use Rattle.tile_run.specs.declared.editor.Editor.{Editor}
use Rattle.tile_course.specs.declared.outcome.LineStop.{LineStop}
use Rattle.tile_course.specs.declared.refused.Refused.{Refused}
use Rattle.mvt_history.specs.declared.session.Session.{Session}
use Rattle.tile_device.proofs.Sending.{sends_more, sends_nothing, writes_more}
use Rattle.tile_course.proofs.Overs.{walk-append, walk_over_any}

-- ---- one line

replies_are : (p : Progress) (history : History) (answer : Result (Held ℕ) Refused) → (answered p history (Some answer)).replies ≡ p.replies ++ reply_to (p.lines + 1) (printed_in answer)
replies_are p history (Ok done) = refl
replies_are p history (Err reason) = refl

is_at : (strict : Bool) (p : Progress) (history : History) (answer : Result (Held ℕ) Refused) (editor : Editor) → StandsFor editor.session history
    → editor.strict ≡ strict → editor.lines ≡ p.lines + 1 → editor.any_refused ≡ (p.any_refused || is_err answer) → IsAt editor strict (answered p history (Some answer))
is_at strict p history (Ok done) editor stands strictly lines refused = record { strict = strictly; stands = stands; lines = lines; refused = refused ∙ or-false p.any_refused }
is_at strict p history (Err reason) editor stands strictly lines refused = record { strict = strictly; stands = stands; lines = lines; refused = refused ∙ or-true p.any_refused }

over_is : (strict : Bool) (p : Progress) (history : History) (answer : Result (Held ℕ) Refused) → is_over strict p ≡ false → is_over strict (answered p history (Some answer)) ≡ (strict && is_err answer)
over_is true p history (Ok done) on = on
over_is true p history (Err reason) on = refl
over_is false p history (Ok done) on = refl
over_is false p history (Err reason) on = refl

-- a line without a reply
pub advances_silently : (m : Moment) (strict : Bool) (p : Progress) (line : List ℕ) (session : Session) (editor : Editor) → is_over strict p ≡ false
    → CarriesOut session line None p → editor.session ≡ session → editor.strict ≡ strict → editor.lines ≡ p.lines + 1 → editor.any_refused ≡ p.any_refused
    → Advances m m editor strict line p false
advances_silently m strict p line session editor on carries same strictly lines refused = record {
  next = answered p carries.history None;
  follows = carries.follows;
  at = record { strict = strictly; stands = subst (λ (t : Session). StandsFor t carries.history) (sym same) carries.stands; lines = lines; refused = refused };
  over = on;
  reply = [];
  replied = sym (append-nil p.replies);
  sends = sends_nothing m.replies m.retries;
}

none_met : (r : Result (Unit {0}) Trouble) → is_err r ≡ false → trouble_of r ≡ None
none_met (Ok done) e = refl
none_met (Err trouble) e = absurd cc

trouble_met : (r : Result (Unit {0}) Trouble) → is_err r ≡ true → (trouble : Trouble) × (trouble_of r ≡ Some trouble)
trouble_met (Ok done) e = absurd cc
trouble_met (Err trouble) e = (trouble, refl)

-- a line that was replied to
advances : (a b : Moment) (strict over : Bool) (p : Progress) (line : List ℕ) (number : ℕ) (answer : Result (Held ℕ) Refused) (seen : Result (List ℕ) Refused) (session : Session) (editor : Editor) (r : Result (Unit {0}) Trouble)
    → is_over strict p ≡ false → CarriesOut session line (Some answer) p → editor.session ≡ session → editor.strict ≡ strict → editor.lines ≡ number → p.lines + 1 ≡ number
    → editor.any_refused ≡ (p.any_refused || is_err answer) → (strict && is_err answer) ≡ over
    → is_err r ≡ false → seen ≡ printed_in answer → Replies a b (reply_to number seen) (trouble_of r) → Advances a b editor strict line p over
advances a b strict over p line number answer seen session editor r on carries same strictly lines counted refused ends went shown sends = record {
  next = answered p carries.history (Some answer);
  follows = carries.follows;
  at = is_at strict p carries.history answer editor (subst (λ (t : Session). StandsFor t carries.history) (sym same) carries.stands) strictly (lines ∙ sym counted) refused;
  over = over_is strict p carries.history answer on ∙ ends;
  reply = reply_to number (printed_in answer);
  replied = replies_are p carries.history answer ∙ ap (λ (i : ℕ). p.replies ++ reply_to i (printed_in answer)) counted;
  sends = subst (Replies a b (reply_to number (printed_in answer))) (none_met r went) (subst (λ (printed : Result (List ℕ) Refused). Replies a b (reply_to number printed) (trouble_of r)) shown sends);
}

and_true : (b : Bool) → (b && true) ≡ b
and_true true = refl
and_true false = refl

-- a line that was accepted
advances_accepted : (a b : Moment) (strict : Bool) (p : Progress) (line : List ℕ) (number : ℕ) (answer : Result (Held ℕ) Refused) (seen : Result (List ℕ) Refused) (session : Session) (editor : Editor) (r : Result (Unit {0}) Trouble)
    → is_over strict p ≡ false → CarriesOut session line (Some answer) p → editor.session ≡ session → editor.strict ≡ strict → editor.lines ≡ number → p.lines + 1 ≡ number
    → editor.any_refused ≡ p.any_refused → is_err answer ≡ false
    → is_err r ≡ false → seen ≡ printed_in answer → Replies a b (reply_to number seen) (trouble_of r) → Advances a b editor strict line p false
advances_accepted a b strict p line number answer seen session editor r on carries same strictly lines counted refused good went shown sends =
    advances a b strict false p line number answer seen session editor r on carries same strictly lines counted
    (refused ∙ sym (ap (λ (q : Bool). p.any_refused || q) good ∙ or-false p.any_refused)) (ap (λ (q : Bool). strict && q) good ∙ and_right strict false refl) went shown sends

-- a line that was refused
advances_refused : (a b : Moment) (strict over : Bool) (p : Progress) (line : List ℕ) (number : ℕ) (answer : Result (Held ℕ) Refused) (seen : Result (List ℕ) Refused) (session : Session) (editor : Editor) (r : Result (Unit {0}) Trouble)
    → is_over strict p ≡ false → CarriesOut session line (Some answer) p → editor.session ≡ session → editor.strict ≡ strict → editor.lines ≡ number → p.lines + 1 ≡ number
    → editor.any_refused ≡ true → is_err answer ≡ true → strict ≡ over
    → is_err r ≡ false → seen ≡ printed_in answer → Replies a b (reply_to number seen) (trouble_of r) → Advances a b editor strict line p over
advances_refused a b strict over p line number answer seen session editor r on carries same strictly lines counted refused bad ends went shown sends =
    advances a b strict over p line number answer seen session editor r on carries same strictly lines counted
    (refused ∙ sym (ap (λ (q : Bool). p.any_refused || q) bad ∙ or-true p.any_refused)) (ap (λ (q : Bool). strict && q) bad ∙ and_true strict ∙ ends) went shown sends

settled_so : (a b : Moment) (strict : Bool) (p : Progress) (line : List ℕ) (number : ℕ) (answer : Result (Held ℕ) Refused) (seen : Result (List ℕ) Refused) (session : Session) (before : Editor) (r : Result (Unit {0}) Trouble)
    → is_over strict p ≡ false → CarriesOut session line (Some answer) p → before.session ≡ session → before.strict ≡ strict → before.lines ≡ number → p.lines + 1 ≡ number
    → before.any_refused ≡ p.any_refused → is_err r ≡ false → seen ≡ printed_in answer → Replies a b (reply_to number seen) (trouble_of r)
    → AnswersLine a b (settled (is_err answer) before) strict line p (ends_line strict (is_err answer))
settled_so a b strict p line number (Ok printed) seen session before r on carries same strictly lines counted refused went shown sends =
    advances_accepted a b strict p line number (Ok printed) seen session before r on carries same strictly lines counted refused refl went shown sends
settled_so a b false p line number (Err reason) seen session before r on carries same strictly lines counted refused went shown sends =
    advances_refused a b false false p line number (Err reason) seen session (settled true before) r on carries same strictly lines counted refl refl refl went shown sends
settled_so a b true p line number (Err reason) seen session before r on carries same strictly lines counted refused went shown sends =
    advances_refused a b true true p line number (Err reason) seen session (settled true before) r on carries same strictly lines counted refl refl refl went shown sends

-- a line that was replied to, and noted where it was refused
pub settles : (a b : Moment) (strict : Bool) (p : Progress) (line : List ℕ) (number : ℕ) (answer : Result (Held ℕ) Refused) (seen : Result (List ℕ) Refused) (session : Session) (before editor : Editor) (r : Result (Unit {0}) Trouble) (bad : Bool) (q : Result (Unit {0}) LineStop)
    → is_over strict p ≡ false → CarriesOut session line (Some answer) p → before.session ≡ session → before.strict ≡ strict → before.lines ≡ number → p.lines + 1 ≡ number
    → before.any_refused ≡ p.any_refused → bad ≡ is_err answer → editor ≡ settled bad before → q ≡ ends_line before.strict bad
    → is_err r ≡ false → seen ≡ printed_in answer → Replies a b (reply_to number seen) (trouble_of r) → AnswersLine a b editor strict line p q
settles a b strict p line number answer seen session before editor r bad q on carries same strictly lines counted refused is_bad is ends went shown sends =
    let so = settled_so a b strict p line number answer seen session before r on carries same strictly lines counted refused went shown sends in
    let ended = ends ∙ ap₂ ends_line strictly is_bad in
    subst (λ (e : Editor). AnswersLine a b e strict line p q) (sym (is ∙ ap (λ (bad : Bool). settled bad before) is_bad))
    (subst (λ (q : Result (Unit {0}) LineStop). AnswersLine a b (settled (is_err answer) before) strict line p q) (sym ended) so)

-- a line whose reply met trouble
pub falters : (a b : Moment) (p : Progress) (line : List ℕ) (number : ℕ) (answer : Result (Held ℕ) Refused) (seen : Result (List ℕ) Refused) (session : Session) (r : Result (Unit {0}) Trouble)
    → CarriesOut session line (Some answer) p → p.lines + 1 ≡ number
    → is_err r ≡ true → seen ≡ printed_in answer → Replies a b (reply_to number seen) (trouble_of r) → Falters a b line p
falters a b p line number answer seen session r carries counted went shown sends =
    let met = trouble_met r went in
    record {
      next = answered p carries.history (Some answer);
      follows = carries.follows;
      reply = reply_to number (printed_in answer);
      replied = replies_are p carries.history answer ∙ ap (λ (i : ℕ). p.replies ++ reply_to i (printed_in answer)) counted;
      trouble = met.0;
      sends = subst (Replies a b (reply_to number (printed_in answer))) met.1 (subst (λ (printed : Result (List ℕ) Refused). Replies a b (reply_to number printed) (trouble_of r)) shown sends);
    }

-- ---- several lines

one_more : (strict : Bool) (p next : Progress) (line : List ℕ) → is_over strict p ≡ false → MayFollow p line next → Walk strict p (line ∷ []) next
one_more strict p next line on follows = rw on (next, follows, refl)

pub comes_more : (strict over : Bool) (start : Progress) (lines all : List (List ℕ)) (line : List ℕ) (a b c : Moment) (editor after : Editor)
    → all ≡ lines ++ line ∷ [] → (to : ComesTo strict start lines a b editor) → Advances b c after strict line to.comes.progress over
    → Comes strict start all a c over
comes_more strict over start lines all line a b c editor after whole to step =
    let p = to.comes.progress in
    record {
      progress = step.next;
      walk = subst (λ (ls : List (List ℕ)). Walk strict start ls step.next) (sym whole) (walk-append strict start p step.next lines (line ∷ []) to.comes.walk (one_more strict p step.next line to.comes.over step.follows));
      over = step.over;
      sends = subst (λ (bytes : List ℕ). Replies a c bytes None) (sym step.replied) (sends_more a.replies b.replies c.replies a.retries b.retries c.retries p.replies step.reply None to.comes.sends step.sends);
    }

pub comes_to_more : (strict : Bool) (start : Progress) (lines all : List (List ℕ)) (line : List ℕ) (a b c : Moment) (editor after : Editor)
    → all ≡ lines ++ line ∷ [] → (to : ComesTo strict start lines a b editor) → Advances b c after strict line to.comes.progress false
    → ComesTo strict start all a c after
unfolding comes_more
comes_to_more strict start lines all line a b c editor after whole to step = record {
  comes = comes_more strict false start lines all line a b c editor after whole to step;
  at = step.at;
}

-- the same lines
pub comes_to_same : (strict : Bool) (start : Progress) (lines all : List (List ℕ)) (a b : Moment) (editor : Editor)
    → all ≡ lines → ComesTo strict start lines a b editor → ComesTo strict start all a b editor
comes_to_same strict start lines all a b editor whole to = subst (λ (ls : List (List ℕ)). ComesTo strict start ls a b editor) (sym whole) to

-- a run that is over stays so
pub over_after : (strict : Bool) (start : Progress) (lines all others : List (List ℕ)) (a b : Moment)
    → all ≡ lines ++ others → Comes strict start lines a b true → Comes strict start all a b true
over_after strict start lines all others a b whole comes = record {
  progress = comes.progress;
  walk = subst (λ (ls : List (List ℕ)). Walk strict start ls comes.progress) (sym whole) (walk-append strict start comes.progress comes.progress lines others comes.walk (walk_over_any strict comes.progress others comes.over));
  over = comes.over;
  sends = comes.sends;
}

-- the reply to the next line met trouble
pub cut_short : (strict : Bool) (start : Progress) (lines all others : List (List ℕ)) (line : List ℕ) (a b c : Moment) (editor : Editor)
    → all ≡ lines ++ line ∷ others → (to : ComesTo strict start lines a b editor) → Falters b c line to.comes.progress
    → (output : Output) × IsCutShort strict start all output × Writes a.replies c.replies a.retries c.retries output
cut_short strict start lines all others line a b c editor whole to step =
    let p = to.comes.progress in
    let output : Output = record { bytes = step.sends.0; retries = b.retries - c.retries; trouble = Some step.trouble } in (
      record { bytes = p.replies ++ step.sends.0; retries = a.retries - c.retries; trouble = Some step.trouble },
      record {
        first = lines;
        line = line;
        more = others;
        split = whole;
        progress = p;
        walk = to.comes.walk;
        goes_on = to.comes.over;
        next = step.next;
        follows = step.follows;
        reply = step.reply;
        replied = step.replied;
        prefix = step.sends.0;
        is_prefix = step.sends.1;
        written = refl;
        trouble = refl;
      },
      writes_more a.replies b.replies c.replies a.retries b.retries c.retries (a.retries - b.retries) p.replies output to.comes.sends step.sends.2,
    )
