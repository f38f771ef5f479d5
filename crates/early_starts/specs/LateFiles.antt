-- The file that a command reads late.
use Rattle.std.specs.Prelude.{◌≡◌, ℕ, List, [], ◌∷◌, Bool, true, false, Option, Some, None, if◌then◌else◌, option_map, codes, refl, bytes_eq}
use Rattle.texts.specs.Lists.{word_after}
use Rattle.texts.specs.Path.{joined}
use Rattle.texts.specs.Rows.{spaced}
use Rattle.compilers.specs.declared.command.Cacheable.TheVariants.{Yes}
use Rattle.compilers.specs.declared.plans.plan.NvccGeneratedSubcommand.{NvccGeneratedSubcommand}
use Rattle.compilers.specs.declared.plans.program.Program.{Program}
use Rattle.compilers.specs.declared.plans.program.Program.TheVariants as programs
use Rattle.compilers.specs.Programs.{program_at}

-- the option behind which cicc and cudafe++ name the module id's file
abbrev pub module_id_option : List ℕ
module_id_option = codes "--module_id_file_name"

-- the file that a command names behind it, from its own directory
abbrev pub named_file : NvccGeneratedSubcommand → Option (List ℕ)
named_file c = option_map (joined c.cwd) (word_after module_id_option c.args)

-- which programs read it only once they have parsed their input
abbrev pub late_for : Program → Option (List ℕ) → Option (List ℕ)
late_for programs.Cicc file = file
late_for programs.Cudafe file = None
late_for programs.Ptxas file = None
late_for programs.Fatbinary file = None
late_for programs.Nvlink file = None
late_for programs.Other file = None

abbrev pub late_file : NvccGeneratedSubcommand → Option (List ℕ)
late_file c = late_for (program_at c.exe) (named_file c)

-- words with another first one
abbrev pub with_first : List ℕ → List (List ℕ) → List (List ℕ)
with_first name [] = []
with_first name (_ ∷ ws) = name ∷ ws

-- words in which another name is behind the first that is an option
abbrev pub renamed : List ℕ → List ℕ → List (List ℕ) → List (List ℕ)
renamed option name [] = []
renamed option name (w ∷ ws) = if bytes_eq w option then w ∷ with_first name ws else w ∷ renamed option name ws

-- whether a file that a command may name is this one
abbrev pub is_file : List ℕ → Option (List ℕ) → Bool
is_file late None = false
is_file late (Some file) = bytes_eq file late

-- which programs make a module id for others that begin before it is there: cudafe++ alone, though a cicc may write one too
abbrev pub given_by : Program → Bool → Bool
given_by programs.Cudafe is_named = is_named
given_by programs.Cicc is_named = false
given_by programs.Ptxas is_named = false
given_by programs.Fatbinary is_named = false
given_by programs.Nvlink is_named = false
given_by programs.Other is_named = false

-- whether a command is cudafe++, and its module id's file is this one
abbrev pub gives : List ℕ → NvccGeneratedSubcommand → Bool
gives late c = given_by (program_at c.exe) (is_file late (named_file c))

-- examples
abbrev line : List ℕ → List (List ℕ) → NvccGeneratedSubcommand
line program words = record { exe = program; args = words; cwd = codes "/t"; env_vars = []; cacheable = Yes }

pub cicc_reads_its_module_id_late : late_file (line (codes "/n/cicc") (spaced "-m64 --module_id_file_name k.module_id k.ii -o k.ptx")) ≡ Some (codes "/t/k.module_id")
cicc_reads_its_module_id_late = refl

pub cudafe_reads_nothing_late : late_file (line (codes "/n/cudafe++") (spaced "--module_id_file_name k.module_id k.ii")) ≡ None
cudafe_reads_nothing_late = refl

pub an_option_without_a_file : late_file (line (codes "cicc") (spaced "k.ii --module_id_file_name")) ≡ None
an_option_without_a_file = refl

pub another_name : renamed module_id_option (codes "/x/id") (spaced "-m64 --module_id_file_name k.module_id k.ii") ≡ spaced "-m64 --module_id_file_name /x/id k.ii"
another_name = refl

pub cudafe_gives_its_module_id : gives (codes "/t/k.module_id") (line (codes "/n/cudafe++") (spaced "--module_id_file_name k.module_id k.ii")) ≡ true
cudafe_gives_its_module_id = refl

pub cicc_gives_none : gives (codes "/t/k.module_id") (line (codes "/n/cicc") (spaced "--gen_module_id_file --module_id_file_name k.module_id k.ii")) ≡ false
cicc_gives_none = refl
