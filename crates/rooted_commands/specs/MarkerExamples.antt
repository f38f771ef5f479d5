-- Preprocessed texts of a call in a checkout, and what comes of them.
use Rattle.std.specs.Prelude.{[], ◌∷◌, codes}
use Rattle.texts.specs.Rows.{Gives}
use Rattle.rooted_commands.specs.Markers.{rooted_text}
use Rattle.rooted_commands.specs.Paths.{call_in}

-- names of files in markers, at the beginning of lines, are rooted. The last line is no marker
abbrev pub NamesAreRooted : Type 0
NamesAreRooted = Gives (rooted_text (call_in (codes "/home/u/p/a") (codes "/t"))) ((
  codes "# 0 \"k.cu\"\n# 0 \"<built-in>\"\n# 1 \"/usr/include/a.h\" 1 3 4\nint x;\n# 20 \"/data/p/b.h\" 2\n # 1 \"k.cu\"\n# \"k.cu\"\n# 1 \"a\\\\b.h\"\n# 3 \"k.cu",
  codes "# 0 \"/src/a/k.cu\"\n# 0 \"<built-in>\"\n# 1 \"/usr/include/a.h\" 1 3 4\nint x;\n# 20 \"/src/b.h\" 2\n # 1 \"k.cu\"\n# \"k.cu\"\n# 1 \"a\\\\b.h\"\n# 3 \"k.cu",
) ∷ [])

-- lines of a raw string stay, up to its own end
abbrev pub RawStringsStay : Type 0
RawStringsStay = Gives (rooted_text (call_in (codes "/home/u/p/a") (codes "/t"))) (
    (codes "asm volatile(R\"YYY(\n# 1 \"k.cu\"\n)YY\"\n)YYY\" : : );\n# 2 \"k.cu\"\n", codes "asm volatile(R\"YYY(\n# 1 \"k.cu\"\n)YY\"\n)YYY\" : : );\n# 2 \"/src/a/k.cu\"\n")
    ∷ (codes "f(R\"(a)\");\n# 2 \"k.cu\"\n", codes "f(R\"(a)\");\n# 2 \"/src/a/k.cu\"\n")
    ∷ (codes "R\"a(\n)a\" R\"b(\n# 2 \"k.cu\"\n)b\"\n# 5 \"k.cu\"", codes "R\"a(\n)a\" R\"b(\n# 2 \"k.cu\"\n)b\"\n# 5 \"/src/a/k.cu\"")
    ∷ [])

-- what only looks like a raw string leaves names as they are: up to its end, or in all further lines if there are two
abbrev pub DoubtfulLinesStay : Type 0
DoubtfulLinesStay = Gives (rooted_text (call_in (codes "/home/u/p/a") (codes "/t"))) (
    (codes "\"FOR\"(x\n# 2 \"k.cu\"\n", codes "\"FOR\"(x\n# 2 \"k.cu\"\n")
    ∷ (codes "\"FOR\" (x\n# 2 \"k.cu\"\n", codes "\"FOR\" (x\n# 2 \"/src/a/k.cu\"\n")
    ∷ (codes "R\"a( R\"b(\n)a\" )b\"\n# 3 \"k.cu\"\n", codes "R\"a( R\"b(\n)a\" )b\"\n# 3 \"k.cu\"\n")
    ∷ [])
