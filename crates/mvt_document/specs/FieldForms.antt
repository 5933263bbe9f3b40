-- What the forms in which a field is held stand for.
use Rattle.std.specs.Prelude.{ℕ}
use Rattle.mvt_document.specs.declared.body.Body.{Body}
use Rattle.mvt_document.specs.declared.body.Body.TheVariants as body
use Rattle.mvt_document.specs.declared.field.Form.{Form}
use Rattle.mvt_document.specs.declared.field.Form.TheVariants.{Number, Eight, Four, Bytes, FewBytes, Group, FewOfGroup}

-- the value of the tag
abbrev pub tag_in : Form → ℕ
tag_in (Number tag_width tag number) = tag
tag_in (Eight tag_width tag bytes) = tag
tag_in (Four tag_width tag bytes) = tag
tag_in (Bytes tag_width width tag bytes) = tag
tag_in (FewBytes tag_width width tag bytes) = tag
tag_in (Group tag_width tag bytes) = tag
tag_in (FewOfGroup tag_width tag bytes) = tag

-- the width in which the tag is spelled
abbrev pub tag_width_in : Form → ℕ
tag_width_in (Number tag_width tag number) = tag_width
tag_width_in (Eight tag_width tag bytes) = tag_width
tag_width_in (Four tag_width tag bytes) = tag_width
tag_width_in (Bytes tag_width width tag bytes) = tag_width
tag_width_in (FewBytes tag_width width tag bytes) = tag_width
tag_width_in (Group tag_width tag bytes) = tag_width
tag_width_in (FewOfGroup tag_width tag bytes) = tag_width

-- the body; few bytes have no room for more
abbrev pub body_in : Form → Body
body_in (Number tag_width tag number) = body.Number number
body_in (Eight tag_width tag bytes) = body.Eight bytes
body_in (Four tag_width tag bytes) = body.Four bytes
body_in (Bytes tag_width width tag bytes) = body.Bytes width bytes
body_in (FewBytes tag_width width tag bytes) = body.Bytes width (record { items = bytes; room = 0 })
body_in (Group tag_width tag bytes) = body.Group bytes
body_in (FewOfGroup tag_width tag bytes) = body.Group (record { items = bytes; room = 0 })
