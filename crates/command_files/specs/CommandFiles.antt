-- The files that a planned command reads and writes according to its words.
use Rattle.std.specs.Prelude.{◌≡◌, ℕ, List, [], ◌∷◌, ◌++◌, Bool, true, false, ◌==◌, ◌||◌, nat_eq, length, if◌then◌else◌, Option, Some, None, refl, codes, option_and_then, bytes_eq}
use Rattle.std.specs.Bool.{beq}
use Rattle.std.specs.List.{slice_split, starts_with}
use Rattle.texts.specs.Lists.{word_after, rest_after}
use Rattle.texts.specs.Path.{joined}
use Rattle.compilers.specs.Compiler.{Reading, accepted, cannot_cache, not_compilation}
use Rattle.compilers.specs.declared.outputs.ArtifactDescriptor.{ArtifactDescriptor}
use Rattle.device_lines.specs.Cicc.{cicc_answer}
use Rattle.device_lines.specs.CudaFE.{cudafe_answer}
use Rattle.device_lines.specs.Ptxas.{ptxas_answer}
use Rattle.command_files.specs.declared.files.CommandFiles.{CommandFiles}
use Rattle.compilers.specs.declared.plans.program.Program.{Program}
use Rattle.compilers.specs.declared.plans.program.Program.TheVariants as programs
use Rattle.compilers.specs.Programs.{program_at}

-- the path of a text that is looked up from a folder, if there is one
abbrev pub joined_option : List ℕ → Option (List ℕ) → List (List ℕ)
joined_option cwd None = []
joined_option cwd (Some path) = joined cwd path ∷ []

-- the paths that words give by a rule, in order
abbrev pub paths_by : List ℕ → (List ℕ → Option (List ℕ)) → List (List ℕ) → List (List ℕ)
paths_by cwd path_of [] = []
paths_by cwd path_of (w ∷ ws) = joined_option cwd (path_of w) ++ paths_by cwd path_of ws

-- Lines of cicc, ptxas and cudafe++, by their readers.

-- the paths of the outputs that a command may leave out, or of those that it writes for certain
abbrev pub paths_of : Bool → List (List ℕ × ArtifactDescriptor) → List (List ℕ)
paths_of optional [] = []
paths_of optional (o ∷ os) = if beq o.1.optional optional then o.1.path ∷ paths_of optional os else paths_of optional os

-- nothing is known of a line that can't be read
abbrev pub unknown_files : CommandFiles
unknown_files = record { reads = []; writes = []; may_write = []; complete = false }

-- if its reader accepts a line, a command reads the input and the files that count for its outputs, and writes its outputs
abbrev pub files_of_reading : List ℕ → Reading → CommandFiles
files_of_reading cwd (accepted p) =
    record { reads = joined cwd p.input ∷ p.extra_hash_files; writes = paths_of false p.outputs; may_write = paths_of true p.outputs; complete = true }
files_of_reading cwd (cannot_cache text word) = unknown_files
files_of_reading cwd not_compilation = unknown_files

-- cicc also writes the file behind `-olto`, which its reader passes through
abbrev pub cicc_files : List ℕ → List (List ℕ) → CommandFiles
cicc_files cwd words =
    let f = files_of_reading cwd (cicc_answer cwd words) in
    record { reads = f.reads; writes = f.writes ++ joined_option cwd (word_after (codes "-olto") words); may_write = f.may_write; complete = f.complete }

-- Lines of fatbinary.

-- the paths that words give behind a text that they begin with
abbrev pub paths_behind : List ℕ → List ℕ → List (List ℕ) → List (List ℕ)
paths_behind cwd text words = paths_by cwd (rest_after text) words

-- the first of two paths that there is
abbrev pub first_path : Option (List ℕ) → Option (List ℕ) → Option (List ℕ)
first_path (Some path) other = Some path
first_path None other = other

-- the file of an image: the rest of the first of its parts, cut at commas, that begins with `file=`
abbrev pub file_of_parts : List (List ℕ) → Option (List ℕ)
file_of_parts [] = None
file_of_parts (part ∷ parts) = first_path (rest_after (codes "file=") part) (file_of_parts parts)

abbrev pub parts_of : List ℕ → List (List ℕ)
parts_of image = slice_split (λ c. c == 44) image

abbrev pub image_file : List ℕ → Option (List ℕ)
image_file word = option_and_then (λ image. file_of_parts (parts_of image)) (rest_after (codes "--image") word)

abbrev pub image_files : List ℕ → List (List ℕ) → List (List ℕ)
image_files cwd words = paths_by cwd image_file words

abbrev pub fatbinary_files : List ℕ → List (List ℕ) → CommandFiles
fatbinary_files cwd words = record {
  reads = image_files cwd words;
  writes = paths_behind cwd (codes "--create=") words ++ paths_behind cwd (codes "--embedded-fatbin=") words;
  may_write = [];
  complete = true;
}

-- Lines of nvlink and of host compilers.

-- the word right before the first that is a given word, behind a word or none
abbrev pub word_before : List ℕ → Option (List ℕ) → List (List ℕ) → Option (List ℕ)
word_before word before [] = None
word_before word before (w ∷ ws) = if bytes_eq word w then before else word_before word (Some w) ws

-- the input stands right before `-o`, and is no option; other files may be read too: headers, libraries
abbrev pub host_input : List (List ℕ) → Option (List ℕ)
host_input words =
    option_and_then (λ word. if (length word == 0) || starts_with nat_eq word (codes "-") then None else Some word)
    (word_before (codes "-o") None words)

abbrev pub host_files : List ℕ → List (List ℕ) → CommandFiles
host_files cwd words = record {
  reads = joined_option cwd (host_input words);
  writes = joined_option cwd (word_after (codes "-o") words) ++ paths_behind cwd (codes "--register-link-binaries=") words;
  may_write = [];
  complete = false;
}

-- Commands.

-- by the program
abbrev pub files_of_program : Program → List ℕ → List (List ℕ) → CommandFiles
files_of_program programs.Cicc cwd words = cicc_files cwd words
files_of_program programs.Cudafe cwd words = files_of_reading cwd (cudafe_answer cwd words)
files_of_program programs.Ptxas cwd words = files_of_reading cwd (ptxas_answer cwd words)
files_of_program programs.Fatbinary cwd words = fatbinary_files cwd words
files_of_program programs.Nvlink cwd words = host_files cwd words
files_of_program programs.Other cwd words = host_files cwd words

-- the files of a command: its program, its words and its working directory
abbrev pub files_of_words : List ℕ → List (List ℕ) → List ℕ → CommandFiles
files_of_words program words cwd = files_of_program (program_at program) cwd words

-- examples of a fatbin for two targets: cicc of the first target may write the module id file, which that of the second reads
pub first_cicc_writes_the_module_id :
    files_of_words (codes "/c/nvvm/bin/cicc")
    (codes "-arch" ∷ codes "compute_80" ∷ codes "--gen_module_id_file" ∷ codes "--module_id_file_name" ∷ codes "k.module_id" ∷ codes "--stub_file_name"
    ∷ codes "x_0.stub.c" ∷ codes "x_0.cpp1.ii" ∷ codes "-o" ∷ codes "k.ptx" ∷ [])
    (codes "/t")
    ≡ record {
      reads = codes "/t/x_0.cpp1.ii" ∷ [];
      writes = codes "/t/x_0.stub.c" ∷ codes "/t/k.ptx" ∷ [];
      may_write = codes "/t/k.module_id" ∷ [];
      complete = true;
    }
first_cicc_writes_the_module_id = refl

pub second_cicc_reads_it :
    files_of_words (codes "cicc")
    (codes "--module_id_file_name" ∷ codes "k.module_id" ∷ codes "/t/x_1.cpp1.ii" ∷ codes "-o" ∷ codes "l.ptx" ∷ codes "-olto" ∷ codes "l.ltoir" ∷ [])
    (codes "/t")
    ≡ record {
      reads = codes "/t/x_1.cpp1.ii" ∷ codes "/t/k.module_id" ∷ [];
      writes = codes "/t/l.ptx" ∷ codes "/t/l.ltoir" ∷ [];
      may_write = [];
      complete = true;
    }
second_cicc_reads_it = refl

pub ptxas_reads_and_writes :
    files_of_words (codes "ptxas") (codes "-arch=sm_80" ∷ codes "k.ptx" ∷ codes "-o" ∷ codes "k.cubin" ∷ []) (codes "/t")
    ≡ record { reads = codes "/t/k.ptx" ∷ []; writes = codes "/t/k.cubin" ∷ []; may_write = []; complete = true }
ptxas_reads_and_writes = refl

pub fatbinary_reads_its_images :
    files_of_words (codes "fatbinary")
    (codes "--create=k.fatbin" ∷ codes "-64" ∷ codes "--image3=kind=elf,sm=80,file=k.cubin" ∷ codes "--image3=kind=ptx,sm=90,file=/t/l.ptx" ∷ [])
    (codes "/w")
    ≡ record { reads = codes "/w/k.cubin" ∷ codes "/t/l.ptx" ∷ []; writes = codes "/w/k.fatbin" ∷ []; may_write = []; complete = true }
fatbinary_reads_its_images = refl

pub cudafe_writes_the_module_id :
    files_of_words (codes "cudafe++")
    (codes "--gen_c_file_name" ∷ codes "k.cpp" ∷ codes "--stub_file_name" ∷ codes "k.stub.c" ∷ codes "--gen_module_id_file" ∷ codes "--module_id_file_name"
    ∷ codes "k.module_id" ∷ codes "k.cpp4.ii" ∷ [])
    (codes "/t")
    ≡ record { reads = codes "/t/k.cpp4.ii" ∷ []; writes = codes "/t/k.cpp" ∷ codes "/t/k.module_id" ∷ []; may_write = []; complete = true }
cudafe_writes_the_module_id = refl

pub gcc_reads_more :
    files_of_words (codes "/usr/bin/gcc") (codes "-E" ∷ codes "-x" ∷ codes "c++" ∷ codes "k.cu" ∷ codes "-o" ∷ codes "/t/k.cpp4.ii" ∷ []) (codes "/w")
    ≡ record { reads = codes "/w/k.cu" ∷ []; writes = codes "/t/k.cpp4.ii" ∷ []; may_write = []; complete = false }
gcc_reads_more = refl
