-- Texts that a POSIX shell reads, worked out by hand, each as dash and bash read it; and texts without a reading.
use Rattle.std.specs.Prelude.{[], ◌∷◌, ◌++◌, Some, None, codes}
use Rattle.texts.specs.Rows.{Gives}
use Rattle.texts.specs.Shell.Quoting.{quoted_word}
use Rattle.texts.specs.Posix.{Word, Operator, tokens, command}

-- words, quotes and backslashes
abbrev pub WordsAreRead : Type 0
WordsAreRead = Gives tokens (
    (codes "g++ -O2 'a b' it\\'s \"\" x\"y\"z", Some (Word (codes "g++") ∷ Word (codes "-O2") ∷ Word (codes "a b") ∷ Word (codes "it's") ∷ Word [] ∷ Word (codes "xyz") ∷ []))
    ∷ (codes "\"a\\$b\\`c\\\"d\\\\e\\f\"", Some (Word (codes "a$b`c\"d\\e\\f") ∷ []))
    ∷ (codes "-std=c++17 a#b c~ ]%@^!", Some (Word (codes "-std=c++17") ∷ Word (codes "a#b") ∷ Word (codes "c~") ∷ Word (codes "]%@^!") ∷ []))
    ∷ (codes "'A=1' 'x~' '~' '#' ''~", Some (Word (codes "A=1") ∷ Word (codes "x~") ∷ Word (codes "~") ∷ Word (codes "#") ∷ Word (codes "~") ∷ []))
    ∷ (quoted_word (codes "a;b"), Some (Word (codes "a;b") ∷ []))
    ∷ ([], Some [])
    ∷ [])

-- a backslash and a newline are nothing, and no word
abbrev pub LinesAreJoined : Type 0
LinesAreJoined = Gives tokens (
    (codes "a\\" ++ 10 ∷ codes "b", Some (Word (codes "ab") ∷ []))
    ∷ (codes "a \\" ++ 10 ∷ codes " b", Some (Word (codes "a") ∷ Word (codes "b") ∷ []))
    ∷ (codes "\"a\\" ++ 10 ∷ codes "b\"", Some (Word (codes "ab") ∷ []))
    ∷ [])

-- operators end words, quoted ones are characters
abbrev pub OperatorsAreRead : Type 0
OperatorsAreRead = Gives tokens ((
  codes "( cd '/a b' && env A\\=1 gcc )" ++ 10 ∷ [],
  Some (Operator (codes "(") ∷ Word (codes "cd") ∷ Word (codes "/a b") ∷ Operator (codes "&&") ∷ Word (codes "env") ∷ Word (codes "A=1")
      ∷ Word (codes "gcc") ∷ Operator (codes ")") ∷ Operator (10 ∷ []) ∷ []),
)
    ∷ (
      codes "a;b|c||d&",
      Some (Word (codes "a") ∷ Operator (codes ";") ∷ Word (codes "b") ∷ Operator (codes "|") ∷ Word (codes "c")
          ∷ Operator (codes "||") ∷ Word (codes "d") ∷ Operator (codes "&") ∷ []),
    )
    ∷ (codes "'a;b|c' \\&", Some (Word (codes "a;b|c") ∷ Word (codes "&") ∷ []))
    ∷ [])

-- nothing that a shell acts on has a reading, and no text whose quotes are open
abbrev pub ActingTextsHaveNone : Type 0
ActingTextsHaveNone = Gives tokens (
    (codes "a $b", None) ∷ (codes "\"$b\"", None) ∷ (codes "`a`", None) ∷ (codes "*.cu", None) ∷ (codes "a?", None) ∷ (codes "[ab]", None)
    ∷ (codes "~/a", None) ∷ (codes "a #b", None) ∷ (codes "A=1 a", None) ∷ (codes "a x=~", None) ∷ (codes "a{b,c}", None) ∷ (codes "a > b", None)
    ∷ (codes "((1))", None) ∷ (codes "a;;b", None) ∷ (codes "a |& b", None) ∷ (codes "a 'b", None) ∷ (codes "a\\", None)
    ∷ [])

-- a command's program is no reserved word, and no job of bash
abbrev pub CommandsAreRead : Type 0
CommandsAreRead = Gives command (
    (codes "gcc 'a b'", Some (codes "gcc" ∷ codes "a b" ∷ [])) ∷ (codes "gcc if", Some (codes "gcc" ∷ codes "if" ∷ []))
    ∷ (codes "gcc; ld", None) ∷ (codes "if a", None) ∷ (codes "%1 a", None) ∷ (codes "'' a", None) ∷ ([], None)
    ∷ [])
