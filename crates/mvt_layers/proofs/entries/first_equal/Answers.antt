use Rattle.std.proofs.Common.{◌≡◌, ℕ, List, subst, sym, ap, ◌∙◌, arith}
use Rattle.std.specs.Prelude.{IfErr}
use Rattle.std.specs.List.{enumerate_from}
use Rattle.mvt_document.specs.Kinds.{is_entry}
use Rattle.mvt_document.specs.Stands.{layer_item_of}
use Rattle.mvt_layers.specs.Pools.{entry_in, first_equal}
use Rattle.mvt_layers.proofs.Equals.{counted_in_run}
use Rattle.mvt_layers.proofs.InRun.{is_found_entry, none_before, none_after, run_within, until_within}
use Rattle.mvt_layers.proofs.entries.first_equal.Goals as goal

pub returns-in-Ok-clause-found : goal.returns-in-Ok-clause-found
returns-in-Ok-clause-found c =
    let number = c.args.number in
    let front = none_before layer_item_of (entry_in number) (is_entry number) (is_found_entry number) c.args.entries c.args.items.now c.requires.entries in
    sym (ap (λ (placed : List (ℕ × List ℕ)). first_equal c.args.bytes.now (enumerate_from 0 placed)) front ∙ c.in-Ok.ensures.found)

pub returns-in-Err-clause-found : goal.returns-in-Err-clause-found
returns-in-Err-clause-found c =
    let number = c.args.number in
    let front = none_before layer_item_of (entry_in number) (is_entry number) (is_found_entry number) c.args.entries c.args.items.now c.requires.entries in
    let back = none_after layer_item_of (entry_in number) (is_entry number) (is_found_entry number) c.args.entries c.args.items.now c.requires.entries in
    c.equal_beside.ensures.found
    ∙ sym (ap (λ (placed : List (ℕ × List ℕ)). first_equal c.args.bytes.now (enumerate_from 0 placed)) front
    ∙ c.in-Err.ensures.none
    ∙ ap (λ (placed : List (ℕ × List ℕ)). first_equal c.args.bytes.now (enumerate_from c.in-Err.count placed)) back)

pub returns-in-Err-clause-count : goal.returns-in-Err-clause-count
returns-in-Err-clause-count c =
    let all = counted_in_run c.args.number c.args.entries c.args.items.now c.in-Err.count c.requires.entries c.in-Err.ensures.count in
    subst (λ n. IfErr c.equal_beside.result (λ count. count ≡ n)) all c.equal_beside.ensures.count

pub overflow_add-end : goal.overflow_add-end
overflow_add-end c = omega (arith, run_within (is_entry c.args.number) c.args.entries c.args.items.now c.requires.entries, c.well_formed.0.0)

pub equal_before-requires-clause-there : goal.equal_before-requires-clause-there
equal_before-requires-clause-there c = run_within (is_entry c.args.number) c.args.entries c.args.items.now c.requires.entries

pub equal_beside-requires-clause-there : goal.equal_beside-requires-clause-there
equal_beside-requires-clause-there c = until_within (is_entry c.args.number) c.args.entries c.args.items.now c.requires.entries

pub equal_beside-requires-clause-before : goal.equal_beside-requires-clause-before
equal_beside-requires-clause-before c = omega (arith, c.in-Err.ensures.within, c.requires.entries.until)
