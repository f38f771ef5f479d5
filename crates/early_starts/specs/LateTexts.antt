-- What fatbinary of nvcc 13 writes for a host compiler, and what takes its place until the fatbin is there.
use Rattle.std.specs.Prelude.{◌≡◌, ℕ, List, [], ◌∷◌, ◌++◌, Bool, true, false, not, ◌||◌, ◌&&◌, ◌==◌, nat_le, if◌then◌else◌, Option, Some, None, codes, refl, bytes_eq, option_and_then, option_map, unwrap_or}
use Rattle.std.specs.List.{list_all}
use Rattle.texts.specs.Lists.{rest_after}
use Rattle.early_starts.specs.declared.text.State.{State}
use Rattle.early_starts.specs.declared.text.State.TheVariants.{Between, Inside, Escaped}

-- what stands in front of the assembler text, of a fatbin that is linked with others (--device-c) or isn't
abbrev pub head : Bool → List ℕ
head true = codes "#ifndef __SKIP_INTERNAL_FATBINARY_HEADERS\n#include \"fatbinary_section.h\"\n#endif\n#define __CUDAFATBINSECTION  \".nvFatBinSegment\"\n#define __CUDAFATBINDATASECTION  \"__nv_relfatbin\"\nasm(\n"
head false = codes "#ifndef __SKIP_INTERNAL_FATBINARY_HEADERS\n#include \"fatbinary_section.h\"\n#endif\n#define __CUDAFATBINSECTION  \".nvFatBinSegment\"\n#define __CUDAFATBINDATASECTION  \".nv_fatbin\"\nasm(\n"

-- what stands between that and the fatbin's count of numbers
abbrev pub middle : List ℕ
middle = codes ");\n#ifdef __cplusplus\nextern \"C\" {\n#endif\nextern const unsigned long long fatbinData["

-- what stands behind the count
abbrev pub tail : Bool → List ℕ
tail true = codes "];\n#ifdef __cplusplus\n}\n#endif\n#ifdef __cplusplus\nextern \"C\" {\n#endif\n#undef __FATIDNAME_CORE\n#undef __FATIDNAME\n#define __FATIDNAME_CORE(x) __fatbinwrap##x\n#define __FATIDNAME(x) __FATIDNAME_CORE(x)\nextern const __fatBinC_Wrapper_t __FATIDNAME(__NV_MODULE_ID) __attribute__ ((aligned (8))) __attribute__ ((section (__CUDAFATBINSECTION)))= \n\t{ 0x466243b1, 1, fatbinData, 0 };\n#ifdef __cplusplus\n}\n#endif\n"
tail false = codes "];\n#ifdef __cplusplus\n}\n#endif\n#ifdef __cplusplus\nextern \"C\" {\n#endif\nstatic const __fatBinC_Wrapper_t __fatDeviceText __attribute__ ((aligned (8))) __attribute__ ((section (__CUDAFATBINSECTION)))= \n\t{ 0x466243b1, 1, fatbinData, 0 };\n#ifdef __cplusplus\n}\n#endif\n"

-- a file of this form, given its quoted assembler text and its count
abbrev pub file_of : Bool → List ℕ → List ℕ → List ℕ
file_of is_linked quoted count = head is_linked ++ (quoted ++ (middle ++ (count ++ tail is_linked)))

abbrev pub between : State
between = Between

-- The assembler text is written as strings of C, each on a line of its own. Only quotes and newlines are escaped.

-- whether the strings end at a byte, which is a `)`
abbrev pub ends_strings : State → ℕ → Bool
ends_strings Between c = c == 41
ends_strings Inside c = false
ends_strings Escaped c = false

abbrev pub state_after : State → ℕ → Option State
state_after Between c = if c == 34 then Some Inside else if c == 10 then Some Between else None
state_after Inside c = if c == 34 then Some Between else if c == 92 then Some Escaped else if c == 10 then None else Some Inside
state_after Escaped c = if c == 34 || c == 110 then Some Inside else None

-- the bytes of the assembler text that a byte stands for
abbrev pub bytes_of : State → ℕ → List ℕ
bytes_of Between c = []
bytes_of Inside c = if c == 34 || c == 92 then [] else c ∷ []
bytes_of Escaped c = if c == 110 then 10 ∷ [] else c ∷ []

-- the rest of a text from behind the strings that it begins with
abbrev pub behind_strings : State → List ℕ → Option (List ℕ)
behind_strings state [] = None
behind_strings state (c ∷ cs) = if ends_strings state c then Some (c ∷ cs) else option_and_then (λ next. behind_strings next cs) (state_after state c)

-- what these strings say
abbrev pub strings_of : State → List ℕ → List ℕ
strings_of state [] = []
strings_of state (c ∷ cs) =
    if ends_strings state c then [] else bytes_of state c ++ unwrap_or (option_map (λ next. strings_of next cs) (state_after state c)) []

-- a text from behind the digits that it begins with
abbrev pub is_digit : ℕ → Bool
is_digit c = nat_le 48 c && nat_le c 57

abbrev pub behind_digits : List ℕ → List ℕ
behind_digits [] = []
behind_digits (c ∷ cs) = if is_digit c then behind_digits cs else c ∷ cs

-- the strings of a file that fatbinary writes, and all that follows them
abbrev pub with_end : Bool → List ℕ → List ℕ → Option (List ℕ)
with_end is_linked strings count = if bytes_eq (behind_digits count) (tail is_linked) then Some strings else None

abbrev pub with_form : Bool → List ℕ → Option (List ℕ)
with_form is_linked strings = option_and_then (with_end is_linked strings) (option_and_then (rest_after middle) (behind_strings Between strings))

abbrev pub strings_in : Bool → List ℕ → Option (List ℕ)
strings_in is_linked text = option_and_then (with_form is_linked) (rest_after (head is_linked) text)

-- the assembler text of a file of this form
abbrev pub assembler_text : Bool → List ℕ → Option (List ℕ)
assembler_text is_linked text = option_map (strings_of Between) (strings_in is_linked text)

-- whether a path can stand in a string of C and in one of the assembler: it is ASCII without controls, quotes, `?` and `\`
abbrev pub is_plain_byte : ℕ → Bool
is_plain_byte c = (nat_le 32 c && nat_le c 126) && not ((c == 34 || c == 63) || c == 92)

abbrev pub is_plain : List ℕ → Bool
is_plain path = list_all is_plain_byte path

-- the file that takes its place: its assembler text includes the file at a path
abbrev pub placeholder_text : Bool → List ℕ → List ℕ
placeholder_text is_linked path =
    (((((head is_linked ++ codes "\".include \\\"") ++ path) ++ codes "\\\"\\n\"\n") ++ middle) ++ codes "1") ++ tail is_linked

abbrev pub placeholder : Bool → List ℕ → Option (List ℕ)
placeholder is_linked path = if is_plain path then Some (placeholder_text is_linked path) else None

-- examples
pub strings_are_read :
    assembler_text false (file_of false (codes "\".section .nv_fatbin, \\\"a\\\"\\n\"\n\".quad 0x1\\n\"\n\".text\\n\"") (codes "1370"))
    ≡ Some (codes ".section .nv_fatbin, \"a\"\n.quad 0x1\n.text\n")
strings_are_read = refl

pub placeholder_includes : option_and_then (assembler_text true) (placeholder true (codes "/t/k.fatbin.s")) ≡ Some (codes ".include \"/t/k.fatbin.s\"\n")
placeholder_includes = refl

pub other_forms_are_refused : assembler_text true (file_of false (codes "\".text\\n\"") (codes "1")) ≡ None
other_forms_are_refused = refl

pub other_escapes_are_refused : assembler_text false (file_of false (codes "\"\\t\"") (codes "1")) ≡ None
other_escapes_are_refused = refl

pub odd_path : placeholder false (codes "/t/\"k.s") ≡ None
odd_path = refl
