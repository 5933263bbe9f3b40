use Rattle.std.proofs.Common.{◌≡◌, ◌∙◌, ℕ, List, sym, ap, arith, codes, slice_index}
use Rattle.std.proofs.lemmas.Result.{IfOk-weaker}
use Rattle.clap.specs.declared.builder.arg.Arg.{Arg}
use Rattle.clap.specs.declared.builder.command.Command.{Command}
use Rattle.clap.specs.Built.{AddsArg}
use Rattle.tile_command_line.specs.Defaulted.{Awaits}
use Rattle.tile_command_line.proofs.NumberOption.{awaits_more}
use Rattle.tile_command_line.proofs.command_line.described.Goals as goal

abbrev depth_id : List ℕ
depth_id = codes "depth"

other_name : (a : Arg) (name : List ℕ) → a.id.now ≡ name → (slice_index name 0 ≡ slice_index depth_id 0 → ⊥) → a.id.now ≡ depth_id → ⊥
other_name a name named differs same = differs (ap (λ (t : List ℕ). slice_index t 0) (sym named ∙ same))

with_tile : (c : goal.After-arg-4) → Awaits depth_id c.in_ok-arg.field-0
with_tile c = awaits_more depth_id c.named.result c.in_ok-arg.field-0 c.tile_argument.result c.in_ok-arg.ensures c.tile_argument.ensures.plain c.tile_argument.ensures.local
    (other_name c.tile_argument.result (codes "TILE") c.tile_argument.ensures.name (λ (e : 84 ≡ 100). omega (arith, e))) c.named.ensures

with_out : (c : goal.After-arg-4) → Awaits depth_id c.in_ok-arg-2.field-0
with_out c = awaits_more depth_id c.in_ok-arg.field-0 c.in_ok-arg-2.field-0 c.out_argument.result c.in_ok-arg-2.ensures c.out_argument.ensures.plain c.out_argument.ensures.local
    (other_name c.out_argument.result (codes "OUT") c.out_argument.ensures.name (λ (e : 79 ≡ 100). omega (arith, e))) (with_tile c)

with_script : (c : goal.After-arg-4) → Awaits depth_id c.in_ok-arg-3.field-0
with_script c = awaits_more depth_id c.in_ok-arg-2.field-0 c.in_ok-arg-3.field-0 c.script_option.result c.in_ok-arg-3.ensures c.script_option.ensures.plain c.script_option.ensures.local
    (other_name c.script_option.result (codes "script") c.script_option.ensures.name (λ (e : 115 ≡ 100). omega (arith, e))) (with_out c)

with_strict : (c : goal.After-arg-4) (command : Command) → AddsArg c.in_ok-arg-3.field-0 c.strict_option.result command → Awaits depth_id command
with_strict c command added = awaits_more depth_id c.in_ok-arg-3.field-0 command c.strict_option.result added c.strict_option.ensures.plain c.strict_option.ensures.local
    (other_name c.strict_option.result (codes "strict") c.strict_option.ensures.name (λ (e : 115 ≡ 100). omega (arith, e))) (with_script c)

pub returns : goal.returns
returns c = IfOk-weaker c.arg-4.result _ _ (with_strict c) c.arg-4.ensures
