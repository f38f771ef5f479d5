-- The options that the gcc reader knows: this project's profile of gcc's options.
use Rattle.std.specs.Prelude.{ℕ, List, [], ◌∷◌, ◌++◌, Bool, true, not, ◌&&◌, map, Some, None, bytes_eq}
use Rattle.std.specs.List.{list_any}
use Rattle.compilers.specs.declared.table.ArgDisposition.{ArgDisposition}
use Rattle.compilers.specs.declared.table.ArgDisposition.TheVariants.{Separated, Concatenated, CanBeSeparated}
use Rattle.host_lines.specs.declared.gcc.options.ArgData.{ArgData}
use Rattle.host_lines.specs.declared.gcc.options.ArgData.TheVariants.{TooHard, TooHardFlag, PassThrough, PreprocessorArgument, PreprocessorArgumentFlag, PreprocessorArgumentPath, DepArgumentPath, DepTarget, NeedDepTarget, DoCompilation, Output, Language, Arch, Standard}
use Rattle.texts.specs.Rows.{spaced}
use Rattle.compilers.specs.Table.{Entry}

-- the entries of one kind for texts that are flags, and for texts that take a value in one form
abbrev pub flags : ArgData → List (List ℕ) → List (Entry ArgData)
flags kind texts = map (λ text. record { text = text; kind = kind; form = None }) texts

abbrev pub options : ArgDisposition → ArgData → List (List ℕ) → List (Entry ArgData)
options form kind texts = map (λ text. record { text = text; kind = kind; form = Some form }) texts

-- how an option takes its value: in its own word; there after `=`, whose byte is 61; there or as the next word; and
-- there after `=` or as the next word
abbrev pub joined : ArgDisposition
joined = Concatenated None

abbrev pub joined_by_equals : ArgDisposition
joined_by_equals = Concatenated (Some 61)

abbrev pub either_way : ArgDisposition
either_way = CanBeSeparated None

abbrev pub either_way_or_equals : ArgDisposition
either_way_or_equals = CanBeSeparated (Some 61)

-- the entries, by form and kind
abbrev pub gcc_entries : List (Entry ArgData)
gcc_entries =
    flags TooHardFlag (spaced "- -E -M -MM -P --save-temps -save-temps -fsyntax-only")
    ++ options joined TooHard (spaced "@")
    ++ flags NeedDepTarget (spaced "-MD -MMD -MP")
    ++ options Separated DepArgumentPath (spaced "-MF")
    ++ options Separated DepTarget (spaced "-MQ -MT")
    ++ options either_way PreprocessorArgument (spaced "-D -U")
    ++ options either_way PreprocessorArgumentPath (spaced "-I -idirafter -imacros -include -iprefix -iquote -isysroot -isystem")
    ++ options either_way PreprocessorArgumentPath (spaced "-iwithprefix -iwithprefixbefore")
    ++ options Separated PreprocessorArgument (spaced "-Xpreprocessor")
    ++ options joined_by_equals PreprocessorArgument (spaced "-stdlib")
    ++ flags PreprocessorArgumentFlag (spaced "-nostdinc -nostdinc++ -trigraphs -remap")
    ++ options Separated PassThrough (spaced "--param --sysroot -Xassembler -Xlinker -aux-info")
    ++ options either_way PassThrough (spaced "-B -L -u -z")
    ++ options joined_by_equals Standard (spaced "-std")
    ++ options Separated Arch (spaced "-arch")
    ++ flags DoCompilation (spaced "-c")
    ++ options either_way Output (spaced "-o")
    ++ options either_way Language (spaced "-x")

-- whether the texts of a table's entries differ from one another
abbrev pub differ : {T : Type 0} → List (Entry T) → Bool
differ [] = true
differ (e ∷ es) = not (list_any (λ other. bytes_eq e.text other.text) es) && differ es
