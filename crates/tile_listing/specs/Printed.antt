-- What a request prints before it is accepted: whole lines, none of which is `ok` or looks like a refusal.
use Rattle.std.specs.Prelude.{◌≡◌, ◌≢◌, ℕ, List, ◌++◌, All, codes}
use Rattle.std.specs.List.{flat_map}
use Rattle.tile_lines.specs.Lines.{HasNoLineFeed, with_feed}

-- a line that may be printed before `ok`: it holds no line feed, is not `ok` and does not begin with `line `
pub record MayBePrinted (line : List ℕ) : Type 0 where
  pub uncut : HasNoLineFeed line
  pub unlike_ok : line ≢ codes "ok"
  pub other : (rest : List ℕ) → line ≢ codes "line " ++ rest

-- the bytes are such lines, each with its line feed
pub record AreLinesToPrint (bytes : List ℕ) : Type 0 where
  pub lines : List (List ℕ)
  pub spelled : bytes ≡ flat_map with_feed lines
  pub each : All MayBePrinted lines
