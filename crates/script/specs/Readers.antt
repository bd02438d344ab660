-- A script, read a byte at a time.
use Rattle.std.specs.Prelude.{Bool, true, cond, ◌||◌, ℕ, eqb}
use Rattle.words.specs.Words.{start, word_with}
use Rattle.script.specs.Lines.{line_with}
use Rattle.script.specs.declared.reader.Reader.{Reader}

-- a space, a tab, a carriage return
abbrev pub is_blank : ℕ → Bool
is_blank byte = eqb byte 32 || eqb byte 9 || eqb byte 13

-- the word has ended, if there is one
abbrev pub parted : Reader → Reader
parted r = cond (eqb r.word.length 0) r (record r { word = start; line = line_with r.line r.word })

abbrev pub with_letter : Reader → ℕ → Reader
with_letter r byte = record r { word = word_with r.word byte }

abbrev pub commented : Reader → Reader
commented r = record (parted r) { is_comment = true }

abbrev pub ended : Reader → Reader
ended r = record (parted r) { is_ended = true }

-- 10 ends the line, and 35 begins a comment
abbrev pub reader_with : Reader → ℕ → Reader
reader_with r byte =
    cond (eqb byte 10) (ended r)
    (cond r.is_comment r (cond (eqb byte 35) (commented r) (cond (is_blank byte) (parted r) (with_letter r byte))))
