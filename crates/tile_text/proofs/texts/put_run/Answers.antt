use Rattle.std.proofs.Common.{◌∙◌}
use Rattle.tile_text.specs.Extends.{Extends}
use Rattle.tile_text.proofs.Writing.{extends_more, front_written, first_is_escaped, first_written, first_byte_begun, on_err}
use Rattle.tile_text.proofs.texts.put_run.Goals as goal

pub returns-in-empty-clause-ok : goal.returns-in-empty-clause-ok
returns-in-empty-clause-ok c =
    front_written c.args.line.now.items _ c.args.bytes.now _ c.split_at.result.1.now c.plain_len.result c.plain_len.ensures.place c.split_at.ensures.front c.split_at.ensures.back c.in_ok-extend_from_slice.ensures.items

pub put_escaped-requires : goal.put_escaped-requires
put_escaped-requires c =
    first_is_escaped c.args.bytes.now c.split_at.result.1.now c.plain_len.result c.plain_len.ensures.place c.split_at.ensures.back c.in-len1-up.len_at_least

pub returns-in_ok-put_escaped-in-len1-up-clause-ok : goal.returns-in_ok-put_escaped-in-len1-up-clause-ok
returns-in_ok-put_escaped-in-len1-up-clause-ok c =
    let following = c.split_at.result.1.now in
    first_written c.extend_from_slice.new.self.items _ following c.in-len1-up.len_at_least c.in_ok-put_escaped-in-len1-up.ensures.ok
    ∙ front_written c.args.line.now.items _ c.args.bytes.now _ following c.plain_len.result c.plain_len.ensures.place c.split_at.ensures.front c.split_at.ensures.back c.in_ok-extend_from_slice.ensures.items

pub returns-in_err-put_escaped-in-len1-up-clause-kept : goal.returns-in_err-put_escaped-in-len1-up-clause-kept
returns-in_err-put_escaped-in-len1-up-clause-kept c =
    let front : Extends c.args.line.now.items c.extend_from_slice.new.self.items = record { added = _; whole = c.in_ok-extend_from_slice.ensures.items } in
    extends_more _ _ _ front c.in_err-put_escaped-in-len1-up.ensures.kept

pub returns-in_ok-put_escaped-in-len1-up-clause-kept : goal.returns-in_ok-put_escaped-in-len1-up-clause-kept
returns-in_ok-put_escaped-in-len1-up-clause-kept c =
    let front : Extends c.args.line.now.items c.extend_from_slice.new.self.items = record { added = _; whole = c.in_ok-extend_from_slice.ensures.items } in
    extends_more _ _ _ front c.in_ok-put_escaped-in-len1-up.ensures.kept

pub returns-in_err-put_escaped-in-len1-up-clause-err : goal.returns-in_err-put_escaped-in-len1-up-clause-err
returns-in_err-put_escaped-in-len1-up-clause-err c =
    let following = c.split_at.result.1.now in
    on_err c.from_residual-in_err-put_escaped-in-len1-up.result
    (first_byte_begun c.extend_from_slice.new.self.items _ following _ c.in-len1-up.len_at_least
    (front_written c.args.line.now.items _ c.args.bytes.now _ following c.plain_len.result c.plain_len.ensures.place c.split_at.ensures.front c.split_at.ensures.back c.in_ok-extend_from_slice.ensures.items)
    c.in_err-put_escaped-in-len1-up.ensures.err)
