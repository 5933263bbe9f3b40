-- What lines add to the replies.
use Rattle.std.proofs.Common.{◌≡◌, ℕ, ◌+◌, Bool, List, [], ◌∷◌, ◌++◌, Option, Some, None, Result, Ok, Err, refl, sym, ap, subst, ◌∙◌, inl, inr, append_assoc, append-nil}
use Rattle.std.proofs.lemmas.Bool.{cases_Bool}
use Rattle.std.proofs.lemmas.List.{append_cancel_left}
use Rattle.tile_arguments.specs.Request.{Request}
use Rattle.tile_script.specs.Line.{answer_to}
use Rattle.tile_lines.specs.Lines.{EndsWithALine}
use Rattle.tile_course.specs.Answering.{Answer, carried_out}
use Rattle.tile_course.specs.Replies.{accepted_reply, refused_reply, IsOutOfMemory, NoneIsOutOfMemory}
use Rattle.tile_course.specs.Run.{Progress, settled_by, answered_by, after_line, is_over, after_lines, MayFollow, Walk}
use Rattle.mvt_history_steps.specs.declared.error.HistoryError.TheVariants.{Stopped}
use Rattle.tile_course.specs.RunLaws.{WalksNeverOutOfMemoryAreRuns}
use Rattle.tile_lines.specs.declared.parse_error.ParseError.{ParseError}
use Rattle.tile_lines.specs.declared.parse_error.ParseError.TheVariants as parse
use Rattle.tile_course.specs.declared.refused.Refused.{Refused}
use Rattle.tile_course.specs.declared.refused.Refused.TheVariants as refused
use Rattle.tile_course.proofs.ReplyEnds.{ends-append, refused_ends, accepted_ends}
use Rattle.tile_course.proofs.Overs.{walk_over, walk_on}

-- ---- replies are added at the end, as whole lines

pub record Adds (p q : Progress) : Type 0 where
  pub reply : List ℕ
  pub is : q.replies ≡ p.replies ++ reply
  pub ends : EndsWithALine reply

adds_none : (p q : Progress) → q.replies ≡ p.replies → Adds p q
adds_none p q e = record { reply = []; is = e ∙ sym (append-nil p.replies); ends = inl refl }

adds_both : (p q r : Progress) → Adds p q → Adds q r → Adds p r
adds_both p q r first second = record {
  reply = first.reply ++ second.reply;
  is = second.is ∙ ap (λ (xs : List ℕ). xs ++ second.reply) first.is ∙ append_assoc p.replies first.reply second.reply;
  ends = ends-append first.reply second.reply first.ends second.ends;
}

settled_adds : (p : Progress) (result : Result Answer Refused) → Adds p (settled_by p result)
settled_adds p (Ok answer) = record { reply = accepted_reply answer.lines; is = refl; ends = accepted_ends answer.lines }
settled_adds p (Err reason) = record { reply = refused_reply (p.lines + 1) reason; is = refl; ends = refused_ends (p.lines + 1) reason }

answer_adds : (p : Progress) (answer : Result (Option Request) ParseError) → Adds p (answered_by p answer)
answer_adds p (Ok None) = adds_none p (answered_by p (Ok None)) refl
answer_adds p (Ok (Some request)) = settled_adds p (carried_out request p.history)
answer_adds p (Err error) = record { reply = refused_reply (p.lines + 1) (refused.Parse error); is = refl; ends = refused_ends (p.lines + 1) (refused.Parse error) }

pub lines_add : (strict : Bool) (p : Progress) (lines : List (List ℕ)) → Adds p (after_lines strict p lines)
lines_add strict p [] = adds_none p p refl
lines_add strict p (line ∷ lines) =
    elim (cases_Bool (is_over strict p)) [
      | inl over ↦ rw over (adds_none p p refl)
      | inr on ↦ rw on (adds_both p (after_line p line) (after_lines strict (after_line p line) lines) (answer_adds p (answer_to line)) (lines_add strict (after_line p line) lines))
    ]

-- ---- walks

-- the reply to a line that is refused
refusal_adds : (p q : Progress) (reason : Refused) → q.replies ≡ p.replies ++ refused_reply (p.lines + 1) reason → Adds p q
refusal_adds p q reason is = record { reply = refused_reply (p.lines + 1) reason; is = is; ends = refused_ends (p.lines + 1) reason }

follow_adds : (p : Progress) (line : List ℕ) (q : Progress) → MayFollow p line q → Adds p q
follow_adds p line q (inl e) = subst (Adds p) (sym e) (answer_adds p (answer_to line))
follow_adds p line q (inr (inl (takes, e))) = refusal_adds p q (refused.Parse parse.NoMemory) (ap (λ (r : Progress). r.replies) e)
follow_adds p line q (inr (inr stop)) = refusal_adds p q (refused.History (Stopped stop.taken)) (ap (λ (r : Progress). r.replies) stop.stopped)

walk_adds : (strict : Bool) (p : Progress) (lines : List (List ℕ)) (q : Progress) → Walk strict p lines q → Adds p q
walk_adds strict p [] q walk = adds_none p q (ap (λ (r : Progress). r.replies) walk)
walk_adds strict p (line ∷ lines) q walk =
    elim (cases_Bool (is_over strict p)) [
      | inl over ↦ adds_none p q (ap (λ (r : Progress). r.replies) (walk_over strict p q (line ∷ lines) over walk))
      | inr on ↦ (
          let steps = walk_on strict p q line lines on walk in
          adds_both p steps.0 q (follow_adds p line steps.0 steps.1) (walk_adds strict steps.0 lines q steps.2)
          )
    ]

-- what was added is the one reply and then the others
cut : (p next q : Progress) (added : List ℕ) → q.replies ≡ p.replies ++ added → (first : Adds p next) → (others : Adds next q) → added ≡ first.reply ++ others.reply
unfolding adds_both
cut p next q added e first others = append_cancel_left p.replies added (first.reply ++ others.reply) (sym e ∙ (adds_both p next q first others).is)

none_out_of_memory_after : (prefix rest : List ℕ) → EndsWithALine prefix → NoneIsOutOfMemory (prefix ++ rest) → NoneIsOutOfMemory rest
none_out_of_memory_after prefix rest whole none line reason before following ends out_of_memory e =
    none line reason (prefix ++ before) following (ends-append prefix before whole ends) out_of_memory (
    ap (λ (xs : List ℕ). prefix ++ xs) e ∙ sym (append_assoc prefix (before ++ refused_reply line reason) following)
    ∙ ap (λ (xs : List ℕ). xs ++ following) (sym (append_assoc prefix before (refused_reply line reason)))
    )

-- a reply that says that memory was refused would be at the front of what was added
wanted : (p next q : Progress) (added : List ℕ) (reason : Refused) → IsOutOfMemory reason → next.replies ≡ p.replies ++ refused_reply (p.lines + 1) reason → Adds next q → q.replies ≡ p.replies ++ added → NoneIsOutOfMemory added → ⊥
unfolding refusal_adds
wanted p next q added reason out_of_memory is others e none =
    none (p.lines + 1) reason [] others.reply (inl refl) out_of_memory (cut p next q added e (refusal_adds p next reason is) others)

-- no reply says that memory was refused, so it was not at this line
follows_as_run : (p next q : Progress) (line added : List ℕ) → MayFollow p line next → Adds next q → q.replies ≡ p.replies ++ added → NoneIsOutOfMemory added → next ≡ after_line p line
follows_as_run p next q line added (inl follows) others e none = follows
follows_as_run p next q line added (inr (inl (takes, follows))) others e none =
    absurd (wanted p next q added (refused.Parse parse.NoMemory) (inl refl) (ap (λ (r : Progress). r.replies) follows) others e none)
follows_as_run p next q line added (inr (inr stop)) others e none =
    absurd (wanted p next q added (refused.History (Stopped stop.taken)) (inr refl) (ap (λ (r : Progress). r.replies) stop.stopped) others e none)

pub walks_are_runs : WalksNeverOutOfMemoryAreRuns
walks_are_runs strict p q [] added walk e none = walk
walks_are_runs strict p q (line ∷ lines) added walk e none =
    elim (cases_Bool (is_over strict p)) [
      | inl over ↦ rw over (walk_over strict p q (line ∷ lines) over walk)
      | inr on ↦ (
          let steps = walk_on strict p q line lines on walk in
          let others = walk_adds strict steps.0 lines q steps.2 in
          let first = follow_adds p line steps.0 steps.1 in
          let rest = none_out_of_memory_after first.reply others.reply first.ends (subst NoneIsOutOfMemory (cut p steps.0 q added e first others) none) in
          rw on (
          walks_are_runs strict steps.0 q lines others.reply steps.2 others.is rest
          ∙ ap (λ (r : Progress). after_lines strict r lines) (follows_as_run p steps.0 q line added steps.1 others e none)
          )
          )
    ]
