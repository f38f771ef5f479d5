-- The commands of a plan as they run in the call's own directory.
use Rattle.std.specs.Prelude.{◌≡◌, ℕ, List, [], Bool, not, ◌&&◌, if◌then◌else◌, map, codes, refl, bytes_eq}
use Rattle.std.specs.Bool.{beq}
use Rattle.texts.specs.Equality.{words_eq}
use Rattle.texts.specs.Rows.{spaced}
use Rattle.compilers.specs.declared.command.Cacheable.TheVariants.{Yes}
use Rattle.compilers.specs.declared.plans.plan.NvccGeneratedSubcommand.{NvccGeneratedSubcommand}
use Rattle.compilers.specs.declared.plans.plan.Plan.{Plan}
use Rattle.command_files.specs.declared.files.CommandFiles.{CommandFiles}
use Rattle.command_files.specs.CommandFiles.{files_of_words}
use Rattle.command_files.specs.PlanNeeds.{preprocesses}
use Rattle.placed_commands.specs.PlacedWords.{placed_words}

-- the files of a command by its record
abbrev pub files_of : NvccGeneratedSubcommand → CommandFiles
files_of c = files_of_words c.exe c.args c.cwd

-- a command that runs in a directory, given its record: its files have whole paths
abbrev pub moved : CommandFiles → List ℕ → NvccGeneratedSubcommand → NvccGeneratedSubcommand
moved files cwd c = record c { args = placed_words files c.cwd [] c.args; cwd = cwd }

-- whether two records name the same files
abbrev pub are_same : CommandFiles → CommandFiles → Bool
are_same f g = ((words_eq f.reads g.reads && words_eq f.writes g.writes) && words_eq f.may_write g.may_write) && beq f.complete g.complete

-- whether a command has a record, and is no preprocessor
abbrev pub has_record : NvccGeneratedSubcommand → CommandFiles → Bool
has_record c files = are_same (files_of c) files && not (preprocesses c.args)

-- a command that ran in the directory of generated files. It stays there if its record would be another
abbrev pub placed_tool : List ℕ → NvccGeneratedSubcommand → NvccGeneratedSubcommand
placed_tool cwd c = if has_record (moved (files_of c) cwd c) (files_of c) then moved (files_of c) cwd c else c

-- the command that runs in place of one of a plan
abbrev pub placed_command : List ℕ → List ℕ → NvccGeneratedSubcommand → NvccGeneratedSubcommand
placed_command tmp cwd c = if bytes_eq c.cwd tmp && not (preprocesses c.args) then placed_tool cwd c else c

-- a plan whose commands run so
abbrev pub placed_plan : List ℕ → List ℕ → Plan → Plan
placed_plan tmp cwd plan = record plan { groups = map (map (placed_command tmp cwd)) plan.groups }

-- examples: cudafe++ shows the source's name and includes the stub file by the name that it gets, so both stay
abbrev line : List ℕ → List (List ℕ) → List ℕ → NvccGeneratedSubcommand
line program words cwd = record { exe = program; args = words; cwd = cwd; env_vars = []; cacheable = Yes }

pub cudafe_in_the_calls_directory :
    placed_command (codes "/t") (codes "/w")
    (line (codes "/c/cudafe++") (spaced "--orig_src_file_name k.cu --gen_c_file_name x_0.cpp --stub_file_name x_0.stub.c --module_id_file_name k.id x_0.ii") (codes "/t"))
    ≡ line (codes "/c/cudafe++") (spaced "--orig_src_file_name k.cu --gen_c_file_name /t/x_0.cpp --stub_file_name x_0.stub.c --module_id_file_name /t/k.id /t/x_0.ii") (codes "/w")
cudafe_in_the_calls_directory = refl

pub fatbinary_in_the_calls_directory :
    placed_command (codes "/t") (codes "/w")
    (line (codes "/c/fatbinary") (spaced "--create=k.fatbin --ident=k.cu --image3=kind=elf,sm=80,file=k.cubin --image3=kind=elf,file=own.cubin") (codes "/t"))
    ≡ line (codes "/c/fatbinary") (spaced "--create=/t/k.fatbin --ident=k.cu --image3=kind=elf,sm=80,file=/t/k.cubin --image3=kind=elf,file=/t/own.cubin") (codes "/w")
fatbinary_in_the_calls_directory = refl

-- a comma in the directory's name would cut the image's file
pub comma_in_a_directory :
    placed_command (codes "/t,x") (codes "/w") (line (codes "/c/fatbinary") (spaced "--create=k.fatbin --image3=kind=elf,file=k.cubin") (codes "/t,x"))
    ≡ line (codes "/c/fatbinary") (spaced "--create=k.fatbin --image3=kind=elf,file=k.cubin") (codes "/t,x")
comma_in_a_directory = refl

-- a host compiler runs where it ran
pub preprocessor_stays :
    placed_command (codes "/t") (codes "/w") (line (codes "gcc") (spaced "-E k.cu -o /t/x_0.ii") (codes "/w")) ≡ line (codes "gcc") (spaced "-E k.cu -o /t/x_0.ii") (codes "/w")
preprocessor_stays = refl
