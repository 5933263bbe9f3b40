-- Which plain word a word of the program stands for.
use Rattle.tile_lines.specs.Words as plain
use Rattle.tile_lines.specs.declared.words.Word.{Word}
use Rattle.tile_lines.specs.declared.words.Word.TheVariants.{Bare, Quoted}

-- the plain word that a word of the program stands for: the bytes of a bare word, or the text after an opening quote
abbrev pub word_of : Word → plain.Word
word_of (Bare bytes) = plain.Bare bytes.now
word_of (Quoted bytes) = plain.Quoted (plain.text_at bytes.now).0
