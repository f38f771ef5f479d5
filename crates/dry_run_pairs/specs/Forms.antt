-- The forms of a dry run's lines: what two dry runs of one call are compared by. What may differ between the two isn't in a form.
use Rattle.std.specs.Prelude.{◌≡◌, ℕ, List, [], ◌∷◌, ◌++◌, length, reverse, Bool, true, false, not, ◌&&◌, ◌||◌, ◌==◌, nat_eq, Option, Some, None, if◌then◌else◌, codes, refl, unwrap_or, option_map, option_and_then, option_to_list}
use Rattle.std.specs.List.{ends_with, flat_map, list_any, starts_with}
use Rattle.std.specs.Str.Lines.{lines}
use Rattle.texts.specs.Lists.{rest_after}
use Rattle.dry_run_pairs.specs.declared.comparison.Comparison.{Comparison}
use Rattle.dry_run_pairs.specs.Cuts.{cut, holds, past}
use Rattle.dry_run_pairs.specs.Lines.{marked}
use Rattle.dry_run_pairs.specs.Names.{bare, front_of}

-- What a comparison has to know of a call: its working directory, the directory that keeps its generated files, or no text, and
-- whether it writes a dependency file.
pub record CallOf : Type 0 where
  pub cwd : List ℕ
  pub keep_dir : List ℕ
  pub writes_rule : Bool

-- the same, as the code holds it
abbrev pub call_of : Comparison → CallOf
call_of c = record { cwd = c.cwd.now; keep_dir = c.keep_dir.now; writes_rule = c.writes_rule }

-- a directory with a `/` at its end
abbrev pub with_slash : List ℕ → List ℕ
with_slash path = if ends_with nat_eq path (codes "/") then path else path ++ 47 ∷ []

-- the directory that keeps generated files, seen from the working directory if it is below that
abbrev pub kept_folder : List ℕ → List ℕ → List ℕ
kept_folder here path = if length path == 0 then [] else with_slash (unwrap_or (rest_after here path) path)

-- the directories that don't count in front of a name
abbrev pub folders_of : CallOf → List (List ℕ)
folders_of call = with_slash call.cwd ∷ kept_folder (with_slash call.cwd) call.keep_dir ∷ []

-- whether a text is the end of a command that prints to files: with --threads, nvcc reads there what it printed
abbrev pub is_printing : List ℕ → Bool
is_printing text =
    starts_with nat_eq text (codes " > ") && not (list_any (λ c. c == 34) text) && holds (codes "_stdout 2>") text && ends_with nat_eq text (codes "_stderr")

-- a line without such an end
abbrev pub without_printing : List ℕ → List ℕ
without_printing [] = []
without_printing (c ∷ cs) = if is_printing (c ∷ cs) then [] else c ∷ without_printing cs

-- whether a line is a command that prints to files
abbrev pub text_prints : Option (List ℕ) → Bool
text_prints None = false
text_prints (Some text) = not (length (without_printing text) == length text)

abbrev pub prints : List ℕ → Bool
prints line = text_prints (marked line)

-- whether a dry run's commands run side by side
abbrev pub prints_to_files : List ℕ → Bool
prints_to_files run = list_any prints (lines run)

-- a line without blanks at its end
abbrev pub without_blanks : List ℕ → List ℕ
without_blanks line = reverse (past (λ c. c == 32) (reverse line))

-- what is in front of the file that fatbinary makes beside the one that it embeds, and behind it. With --keep, nvcc keeps the file
abbrev pub around_created : List ℕ → Option (List ℕ × List ℕ)
around_created line =
    if not (holds (codes " --embedded-fatbin=") line) then None else
    option_and_then (λ parts. option_map (λ rest. (parts.0, rest.1)) (cut (codes "\" -64 ") parts.1)) (cut (codes " --create=\"") line)

-- a line without that file
abbrev pub joined_around : List ℕ → Option (List ℕ × List ℕ) → List ℕ
joined_around line None = line
joined_around line (Some parts) = parts.0 ++ (codes " -64 " ++ parts.1)

abbrev pub without_created : List ℕ → List ℕ
without_created line = joined_around line (around_created line)

-- whether a line is none of a command of the plan: nvcc removes a file, or makes the dependency file
abbrev pub is_other : List ℕ → Bool
is_other text = starts_with nat_eq text (codes "rm ") || starts_with nat_eq text (codes "-- ")

-- whether a line is a preprocessor's for the host or for a dependency file. How nvcc makes a dependency file differs
abbrev pub is_host_preprocessor : List ℕ → Bool
is_host_preprocessor line = holds (codes " -E ") line && not (ends_with nat_eq line (codes ".cpp1.ii\""))

-- the text of a line that counts: what follows its mark, without its end
abbrev pub counted_command : CallOf → List ℕ → Option (List ℕ)
counted_command call line = if call.writes_rule && is_host_preprocessor line then None else Some line

abbrev pub counted_text : CallOf → List ℕ → Option (List ℕ)
counted_text call text = if is_other text then None else counted_command call (without_blanks (without_printing text))

abbrev pub counted : CallOf → List ℕ → Option (List ℕ)
counted call line = option_and_then (counted_text call) (marked line)

-- the form of a line that counts, given the directories that don't
abbrev pub form_of_text : List (List ℕ) → List ℕ → List ℕ
form_of_text folders text = bare (front_of true folders) (without_created text)

-- the forms of a dry run's lines, in order
abbrev pub forms_in : CallOf → List (List ℕ) → List ℕ → List (List ℕ)
forms_in call folders run = flat_map (λ line. option_to_list (option_map (form_of_text folders) (counted call line))) (lines run)

abbrev pub forms_of : CallOf → List ℕ → List (List ℕ)
forms_of call run = forms_in call (folders_of call) run

-- examples
abbrev pub call_in : List ℕ → List ℕ → Bool → CallOf
call_in cwd keep_dir writes_rule = record { cwd = cwd; keep_dir = keep_dir; writes_rule = writes_rule }

pub kept_in_a_folder : folders_of (call_in (codes "/w") (codes "/w/keep") false) ≡ codes "/w/" ∷ codes "keep/" ∷ []
kept_in_a_folder = refl

pub kept_elsewhere : folders_of (call_in (codes "/") (codes "/k/") false) ≡ codes "/" ∷ codes "k/" ∷ []
kept_elsewhere = refl

pub printing_goes : without_blanks (without_printing (codes "ptxas \"a > b\"   > /t/x_stdout 2>/t/x_stderr")) ≡ codes "ptxas \"a > b\""
printing_goes = refl

pub redirection_stays : without_printing (codes "cmd > a_stdout 2>\"b_stderr") ≡ codes "cmd > a_stdout 2>\"b_stderr"
redirection_stays = refl

pub printing_counts : prints_to_files (codes "#$ A=b\n#$ gcc -E \"k.cu\"  > /t/x_stdout 2>/t/x_stderr\r\nb") ≡ true
printing_counts = refl

pub only_commands_print : prints_to_files (codes "gcc > a_stdout 2>a_stderr\n#$ gcc -o \"a_stdout 2>b_stderr\"\n") ≡ false
only_commands_print = refl

pub created_file_goes : without_created (codes "fatbinary --create=\"/t/k.fatbin\" -64 \"--image3=file=/t/k.ptx\" --embedded-fatbin=\"/t/k.c\"") ≡
    codes "fatbinary -64 \"--image3=file=/t/k.ptx\" --embedded-fatbin=\"/t/k.c\""
created_file_goes = refl

pub created_file_with_a_quote : without_created (codes "fatbinary --create=\"a\\\"b.fatbin\" -64 x --embedded-fatbin=\"k.c\"") ≡ codes "fatbinary -64 x --embedded-fatbin=\"k.c\""
created_file_with_a_quote = refl

pub product_stays : without_created (codes "fatbinary --create=\"k.fatbin\" -64 \"--image3=file=/t/k.ptx\"") ≡ codes "fatbinary --create=\"k.fatbin\" -64 \"--image3=file=/t/k.ptx\""
product_stays = refl

pub lines_that_count :
    forms_of (call_in (codes "/w") [] true)
    (codes "warning\n#$ A=b \r\n#$ gcc -E \"/w/k.cu\" -o \"/t/tmpxft_1_2-3_k.cpp1.ii\" \n#$ gcc -E \"k.cu\" -o \"/t/tmpxft_1_2-4_k.cpp4.ii\" \n#$ -- Filter Dependencies -- > k.d\n#$ rm k.ii\n#$ cicc x") ≡
    codes "A=b" ∷ codes "gcc -E \"k.cu\" -o \"k.cpp1.ii\"" ∷ codes "cicc x" ∷ []
lines_that_count = refl
