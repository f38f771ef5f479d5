-- Whether a word for one of nvcc's tools may name a file. Several commands may get the word: they'd write the file side by side, and
-- a relative name may mean another file to each. An option without a value may take the command's next word as one. So nvcc makes the
-- call unless each option is known.
use Rattle.std.specs.Prelude.{◌≡◌, ℕ, List, [], ◌∷◌, Bool, true, false, not, ◌==◌, ◌||◌, nat_eq, nat_le, if◌then◌else◌, refl, codes, bytes_eq}
use Rattle.std.specs.Borrow.{Bor}
use Rattle.std.specs.List.{list_all, list_any, starts_with, slice_split}
use Rattle.texts.specs.Lists.{is_some_and, rest_after}
use Rattle.texts.specs.Rows.{spaced}

abbrev pub shown : Bor (List ℕ) → List ℕ
shown text = text.now

-- whether a word begins with one of some texts
abbrev pub begins_with_one : List (List ℕ) → List ℕ → Bool
begins_with_one texts word = list_any (starts_with nat_eq word) texts

-- how a word with a tool's options begins, in nvcc's normal form of the line
abbrev pub tool_options : List (List ℕ)
tool_options =
    spaced "-Xptxas= --ptxas-options= -Xfatbin= --fatbin-options= -Xcicc= --cicc-options= -Xcudafe= --cudafe-options="

-- options of the tools whose values are numbers, switches, kinds of caches, or names of diagnostics
abbrev pub valued_options : List (List ℕ)
valued_options =
    spaced "abi= allow-expensive-optimizations= compress= compress-all= compress-mode= def-load-cache= def-store-cache= diag_default= diag_error= diag_once= diag_remark= diag_suppress= diag_warning= dlcm= dscm= error_limit= flcm= fmad= force-load-cache= force-store-cache= fscm= ftz= inline-threshold= maxrregcount= opt= opt-level= prec_div= prec_sqrt= register-usage-level= split-compile= unroll-threshold="

-- options of the tools that take no value
abbrev pub switches : List (List ℕ)
switches =
    spaced "O0 O1 O2 O3 O4 Werror compress-all disable-optimizer-constants disable-optimizer-consts disable-warnings display_error_number dont-merge-basicblocks no-bb-merge no_display_error_number no_warnings no_wrap_diagnostics opt-fp-atomics optimize-float-atomics preserve-relocs promote_warnings remarks ret-end return-at-end sp-bounds-check suppress-debug-info suppress-double-demote-warning suppress-stack-size-warning v verbose w warn-double-usage warn-lmem-usage warn-on-double-precision-use warn-on-local-memory-usage warn-on-spills warn-spills warning-as-error"

-- a tool's options stand between commas and blanks
abbrev pub is_between : ℕ → Bool
is_between byte = byte == 44 || byte == 32

-- quotes, backslashes and control bytes, which a shell reads in its own way
abbrev pub is_odd : ℕ → Bool
is_odd byte = nat_le byte 31 || byte == 34 || byte == 39 || byte == 92

abbrev pub has_value : List ℕ → Bool
has_value name = list_any (λ byte. byte == 61) name

-- an option's name, without the second of its dashes
abbrev pub name_of : List ℕ → List ℕ
name_of [] = []
name_of (byte ∷ name) = if byte == 45 then name else byte ∷ name

-- an option without its dashes that is known to name no file
abbrev pub is_known : List ℕ → Bool
is_known name = if has_value name then begins_with_one valued_options name else list_any (bytes_eq name) switches

-- what doesn't begin with a dash is an input, or the value of the option before it
abbrev pub part_names_file : List ℕ → Bool
part_names_file [] = false
part_names_file (byte ∷ option) = not (byte == 45) || not (is_known (name_of option))

abbrev pub value_names_file : List ℕ → Bool
value_names_file value = list_any is_odd value || list_any part_names_file (slice_split is_between value)

abbrev pub may_name_file : List ℕ → Bool
may_name_file word = list_any (λ option. is_some_and value_names_file (rest_after option word)) tool_options

-- Worked examples: files for messages, a listing, options, headers, the next word, another fatbin and a quoted image; then usual words.
pub words_with_files : list_all may_name_file (spaced "-Xcudafe=--error_output=e.txt -Xcicc=-Ll.txt --ptxas-options=-v,-optf,p --cudafe-options=--pch -Xcudafe=--error_output -Xfatbin=--create=x -Xfatbin=\"--image3=kind=elf,sm=90,fi\"\"le=x.cubin\"") ≡ true
words_with_files = refl

pub usual_options : list_any may_name_file (spaced "-Xptxas=-v,-O3,-dlcm=ca,--warn-on-spills -Xcudafe=--diag_suppress=177,--display_error_number -Xcicc=-opt=3 -Xfatbin=-compress-all,-compress=false -Xcompiler=-MF,k.d -Xptxas=") ≡ false
usual_options = refl
