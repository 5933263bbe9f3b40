-- What a reader answers, compared with the definition that it carries out.
use Rattle.std.specs.Prelude.{◌≡◌, ◌⊎◌, Result, Ok, Err}
use Rattle.tile_lines.specs.declared.parse_error.ParseError.{ParseError}
use Rattle.tile_lines.specs.declared.parse_error.ParseError.TheVariants.{NoMemory}

-- what follows a step that was accepted; the refusal of one that was refused
infixl 10 ◌>>=◌
abbrev pub ◌>>=◌ : {A B : Type 0} → Result A ParseError → (A → Result B ParseError) → Result B ParseError
(Ok x) >>= f = f x
(Err e) >>= f = Err e

-- the refusal is the one that is defined, or out of memory is answered in its place
abbrev pub Refuses : {Y : Type 0} → ParseError → Result Y ParseError → Type 0
Refuses refusal defined = (refusal ≡ NoMemory) ⊎ (defined ≡ Err refusal)

-- the answer, as `view` shows it, is the one that is defined, or out of memory is answered in its place
abbrev pub Gives : {X Y : Type 0} → (X → Y) → Result X ParseError → Result Y ParseError → Type 0
Gives view (Ok x) defined = defined ≡ Ok (view x)
Gives view (Err refusal) defined = Refuses refusal defined

-- the answer, as `view` shows it, is the one that is defined
abbrev pub GivesAlways : {X Y : Type 0} → (X → Y) → Result X ParseError → Result Y ParseError → Type 0
GivesAlways view (Ok x) defined = defined ≡ Ok (view x)
GivesAlways view (Err refusal) defined = defined ≡ Err refusal
