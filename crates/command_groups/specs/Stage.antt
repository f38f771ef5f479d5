-- What a merged command does in a compilation: its words as they are run, and its stage.
use Rattle.std.specs.Prelude.{ℕ, List, [], ◌∷◌, Bool, not, ◌||◌, nat_eq, if◌then◌else◌, Option, Some, None, find, codes, option_and_then, bytes_eq}
use Rattle.std.specs.List.{list_any, starts_with}
use Rattle.compilers.specs.declared.command.Cacheable.{Cacheable}
use Rattle.compilers.specs.declared.command.Cacheable.TheVariants.{Yes, No}
use Rattle.texts.specs.Path.{file_name_of, file_stem_of}
use Rattle.compilers.specs.declared.compiler.NvccHostCompiler.{NvccHostCompiler}
use Rattle.compilers.specs.declared.compiler.NvccHostCompiler.TheVariants.{Gcc, Msvc, Nvhpc}
use Rattle.texts.specs.DeviceFiles.{is_cicc_word, is_ptxas_word}
use Rattle.command_groups.specs.Merge.{MergedCommand}
use Rattle.texts.specs.Lists.{word_after}
use Rattle.texts.specs.ObjectFlags.{makes_objects}

-- the kinds of programs: nvcc's linkers, cudafe++, cicc, ptxas, and any other program
pub data ProgramKind : Type 0 where
  linker : ProgramKind
  cudafe : ProgramKind
  cicc : ProgramKind
  ptxas : ProgramKind
  other : ProgramKind

-- the kind of a program, by its stem; a program without one is any other
abbrev pub kind_of_optional_stem : Option (List ℕ) → ProgramKind
kind_of_optional_stem None = other
kind_of_optional_stem (Some stem) =
    if bytes_eq stem (codes "fatbinary") || bytes_eq stem (codes "nvlink") then linker else
    (if bytes_eq stem (codes "cudafe++") then cudafe else
    (if bytes_eq stem (codes "cicc") then cicc else
    (if bytes_eq stem (codes "ptxas") then ptxas else other)))

abbrev pub kind_of_program : List ℕ → ProgramKind
kind_of_program program = kind_of_optional_stem (file_stem_of program)

-- Edited words.

-- whether a word stands among words
abbrev pub has_word : List ℕ → List (List ℕ) → Bool
has_word word words = list_any (bytes_eq word) words

-- words with a new one right before the first that is a given word; as they are where none is
abbrev pub with_word_before : List ℕ → List ℕ → List (List ℕ) → List (List ℕ)
with_word_before new word [] = []
with_word_before new word (w ∷ ws) = if bytes_eq word w then new ∷ w ∷ ws else w ∷ with_word_before new word ws

-- words without the first that is a given word
abbrev pub without_first_word : List ℕ → List (List ℕ) → List (List ℕ)
without_first_word word [] = []
without_first_word word (w ∷ ws) = if bytes_eq word w then ws else w ∷ without_first_word word ws

-- cicc's words: if the call makes objects, they lose the first `--gen_module_id_file`. nvcc before CUDA 12.8 writes it. But for an
-- object cudafe++ makes the file, and cicc must not make it again.
abbrev pub cicc_edit : List ℕ → List (List ℕ) → List (List ℕ)
cicc_edit flag words = if makes_objects flag then without_first_word (codes "--gen_module_id_file") words else words

-- The words of a program, edited; only those of cudafe++ and of cicc are. If cudafe++'s lack `--gen_module_id_file`, it comes right
-- before the first option that names the file. nvcc before CUDA 12.0 doesn't write it: there a cicc makes the file, and cudafe++ comes
-- last. A plan runs cudafe++ first, so cudafe++ makes it.
abbrev pub edited_by : ProgramKind → List ℕ → List (List ℕ) → List (List ℕ)
edited_by cudafe flag words =
    if has_word (codes "--gen_module_id_file") words then words else with_word_before (codes "--gen_module_id_file") (codes "--module_id_file_name") words
edited_by cicc flag words = cicc_edit flag words
edited_by _ flag words = words

-- a merged command with edited words, under a compilation flag
abbrev pub edited : List ℕ → MergedCommand → MergedCommand
edited flag c = record { line = c.line; run = c.run; program = c.program; words = edited_by (kind_of_program c.program) flag c.words }

-- Stages.

-- the stages of commands: linking device code; splitting host code from device code; compiling device code, of the
-- preprocessed file that is named; assembling it, of the file that is named; preprocessing, into the device group of a
-- name or into none; compiling host code; and what has nothing to do with CUDA
pub data Stage : Type 0 where
  linking : Stage
  splitting : Stage
  device_compiling : Option (List ℕ) → Stage
  assembling : Option (List ℕ) → Stage
  preprocessing : Option (List ℕ) → Stage
  host_compiling : Stage
  foreign : Stage

-- Whether a word begins with a definition of one of CUDA's macros. Each line that nvcc writes for the host compiler has such a word. A line
-- without one compiles nothing, as `rm x_dlink.reg.c`, or runs a program of a newer toolkit that sccache doesn't know.
abbrev pub defines_cuda : List ℕ → Bool
defines_cuda word =
    list_any (starts_with nat_eq word) (codes "-D__CUDACC__" ∷ codes "-D__NVCC__" ∷ codes "-D__CUDA_ARCH__" ∷ codes "-D__CUDA_ARCH_LIST__" ∷ [])

abbrev pub is_for_cuda : List (List ℕ) → Bool
is_for_cuda words = list_any defines_cuda words

-- the word by which a host compiler is told to preprocess only
abbrev pub preprocess_word : NvccHostCompiler → List ℕ
preprocess_word Gcc = codes "-E"
preprocess_word Msvc = codes "-P"
preprocess_word Nvhpc = codes "-E"

-- a name that ends as a preprocessed device file does
abbrev pub device_name : List ℕ → Option (List ℕ)
device_name name = if is_cicc_word name then Some name else None

-- the name that a preprocess step opens a group by: the file name of the word after its first `-o`, where that ends as a
-- preprocessed device file does
abbrev pub opened_name : List (List ℕ) → Option (List ℕ)
opened_name words = option_and_then device_name (option_and_then file_name_of (word_after (codes "-o") words))

-- the stage of a program that isn't nvcc's own
abbrev pub host_stage : NvccHostCompiler → List (List ℕ) → Stage
host_stage compiler words =
    if not (is_for_cuda words) then foreign else
    (if has_word (preprocess_word compiler) words then preprocessing (opened_name words) else host_compiling)

-- the first word that is cicc's input, and the first that is ptxas's
abbrev pub cicc_input : List (List ℕ) → Option (List ℕ)
cicc_input words = find is_cicc_word words

abbrev pub ptxas_input : List (List ℕ) → Option (List ℕ)
ptxas_input words = find is_ptxas_word words

-- the stage of a program with its edited words
abbrev pub stage_by : ProgramKind → NvccHostCompiler → List (List ℕ) → Stage
stage_by linker compiler words = linking
stage_by cudafe compiler words = splitting
stage_by cicc compiler words = device_compiling (cicc_input words)
stage_by ptxas compiler words = assembling (ptxas_input words)
stage_by other compiler words = host_stage compiler words

-- a command, its words edited, and its stage
pub record StagedCommand : Type 0 where
  pub command : MergedCommand
  pub stage : Stage

-- a merged command with its edited words and its stage, under a host compiler and a compilation flag
abbrev pub staged : NvccHostCompiler → List ℕ → MergedCommand → StagedCommand
staged compiler flag c = record { command = edited flag c; stage = stage_by (kind_of_program c.program) compiler (edited flag c).words }

-- the name that a stage opens a group by, if any
abbrev pub opens : Stage → Option (List ℕ)
opens (preprocessing name) = name
opens _ = None

-- Whether the outputs of a stage may come from a cache.
--
-- cudafe++'s have to since CUDA 12.8: cicc reads the module id file, which can be another one at each run (if the source defines no
-- external name, the id ends in the process number). So without the cached file no later cicc would be found in the cache.
--
-- The last host compile is cached in place of the whole nvcc call. A key of the whole call would need the output of `nvcc -E`, which
-- always defines `__CUDA_ARCH__`: code under `#ifndef __CUDA_ARCH__` isn't in it, so a change there would go unseen.
abbrev pub cacheable_mark : Stage → Cacheable
cacheable_mark linking = No
cacheable_mark (preprocessing name) = No
cacheable_mark foreign = No
cacheable_mark _ = Yes
