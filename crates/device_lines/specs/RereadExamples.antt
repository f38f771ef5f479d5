-- Lines that are written back and read again, worked out by hand: lines of the law, and for each tool and each of its
-- premises a line without it that isn't read as the same.
use Rattle.std.specs.Prelude.{◌≡◌, ℕ, List, ◌++◌, Option, Some, Ok, Err, codes, option_map}
use Prim.Native.String.{String}
use Rattle.texts.specs.declared.language.Language.TheVariants.{Cubin}
use Rattle.texts.specs.declared.fault.Fault.TheVariants.{MissingOutput}
use Rattle.compilers.specs.declared.arguments.ParsedArguments.{ParsedArguments}
use Rattle.texts.specs.Rows.{spaced}
use Rattle.device_lines.specs.Cicc.{cicc_reading}
use Rattle.device_lines.specs.CudaFE.{cudafe_reading}
use Rattle.device_lines.specs.Ptxas.{ptxas_reading}
use Rattle.device_lines.specs.DeviceWords.{cicc_words, cudafe_words}
use Rattle.device_lines.specs.DeviceExamples.{words_back, device_code_words}

-- a line is written back as other words, which are read as the same arguments
abbrev pub GoesAndComes : (List (List ℕ) → Option ParsedArguments)
    → (ParsedArguments → List ℕ → List (List ℕ)) → List ℕ → List (List ℕ) → List (List ℕ) → Type 0
GoesAndComes read words_to_write cwd words back = (words_back words_to_write cwd (read words) ≡ Some (Ok back)) × (read back ≡ read words)

-- cicc's device-code line
abbrev pub DeviceCodeLineRereads : Type 0
DeviceCodeLineRereads =
    GoesAndComes (cicc_reading (codes "/w")) cicc_words (codes "/w")
    device_code_words
    (spaced "--device-c -arch compute_80 --module_id_file_name kernel.module_id --simt-only kernel.cpp1.ii -o /w/kernel.ptx")

-- a cudafe++ line of a dry run with canonical names: the module id file moves after the unhashed words
abbrev pub RenamedHostLineRereads : Type 0
RenamedHostLineRereads =
    GoesAndComes (cudafe_reading (codes "/t")) cudafe_words (codes "/t")
    (spaced "--gen_c_file_name x_0.cudafe1.cpp --stub_file_name x_0.cudafe1.stub.c --gen_module_id_file"
    ++ spaced "--module_id_file_name kernel.module_id --simt-only x_0.cpp4.ii")
    (spaced "--gen_module_id_file --simt-only --gen_c_file_name x_0.cudafe1.cpp --stub_file_name x_0.cudafe1.stub.c"
    ++ spaced "--module_id_file_name /t/kernel.module_id x_0.cpp4.ii")

-- a cudafe++ line as nvcc 13.0 prints it
abbrev pub HostLineRereads : Type 0
HostLineRereads =
    GoesAndComes (cudafe_reading (codes "/t")) cudafe_words (codes "/t")
    (spaced "--c++17 --static-host-stub --device-hidden-visibility --gnu_version=120200 --display_error_number"
    ++ spaced "--orig_src_file_name kernel.cu --orig_src_path_name /w/kernel.cu --allow_managed --m64 --parse_templates"
    ++ spaced "--gen_c_file_name kernel.cudafe1.cpp --stub_file_name kernel.cudafe1.stub.c --gen_module_id_file"
    ++ spaced "--module_id_file_name kernel.module_id kernel.cpp4.ii")
    (spaced "--c++17 --static-host-stub --device-hidden-visibility --gnu_version=120200 --display_error_number"
    ++ spaced "--orig_src_file_name kernel.cu --orig_src_path_name /w/kernel.cu --allow_managed --m64 --parse_templates"
    ++ spaced "--gen_module_id_file --gen_c_file_name kernel.cudafe1.cpp --stub_file_name kernel.cudafe1.stub.c"
    ++ spaced "--module_id_file_name /t/kernel.module_id kernel.cpp4.ii")

-- a ptxas line as nvcc 13.0 prints it: `-m64` is an unknown flag, since `-m` takes its value after `=`
abbrev pub AssemblerLineRereads : Type 0
AssemblerLineRereads =
    GoesAndComes (ptxas_reading (codes "/t")) cicc_words (codes "/t")
    (spaced "-arch=sm_80 -m64 kernel.ptx -o kernel.sm_80.cubin")
    (spaced "-arch=sm_80 -m64 kernel.ptx -o /t/kernel.sm_80.cubin")

-- An empty value that is joined loses its `=`, so its option takes the next word as its value. Once the input is cut out,
-- that is `-o`. Read again, the line has no output and can't be written back.
abbrev pub EmptyValueIsLost : Type 0
EmptyValueIsLost =
    (words_back cicc_words (codes "/w") (ptxas_reading (codes "/w") (spaced "-arch= k.ptx -o k.cubin")) ≡ Some (Ok (spaced "-arch k.ptx -o /w/k.cubin")))
    × (words_back cicc_words (codes "/w") (ptxas_reading (codes "/w") (spaced "-arch k.ptx -o /w/k.cubin")) ≡ Some (Err (MissingOutput Cubin)))

-- a line is written back as other words, and another word of these is the input
abbrev pub ChangesItsInput : (List (List ℕ) → Option ParsedArguments) → String → String → String → String → Type 0
ChangesItsInput read words back input other =
    (words_back cicc_words (codes "/w") (read (spaced words)) ≡ Some (Ok (spaced back)))
    × (option_map (λ p. p.input) (read (spaced words)) ≡ Some (codes input))
    × (option_map (λ p. p.input) (read (spaced back)) ≡ Some (codes other))

-- Of two words with the input's suffix the first is the input. The other one, kept after its flag, is written before it,
-- so it is the first when the line is read again.
abbrev pub SecondInputComesFirst : Type 0
SecondInputComesFirst =
    ChangesItsInput (ptxas_reading (codes "/w")) "-x a.ptx b.ptx -o c" "-x b.ptx a.ptx -o /w/c" "a.ptx" "b.ptx"
    × ChangesItsInput (cicc_reading (codes "/w")) "-x a.cpp1.ii b.cpp1.ii -o c" "-x b.cpp1.ii a.cpp1.ii -o /w/c" "a.cpp1.ii" "b.cpp1.ii"

-- a line at the working directory `.` is written back as other words, and these again as others
abbrev pub ChangesTwice : (List (List ℕ) → Option ParsedArguments) → (ParsedArguments → List ℕ → List (List ℕ)) → String → String → String → Type 0
ChangesTwice read words_to_write words back again =
    (words_back words_to_write (codes ".") (read (spaced words)) ≡ Some (Ok (spaced back)))
    × (words_back words_to_write (codes ".") (read (spaced back)) ≡ Some (Ok (spaced again)))

-- at a working directory that isn't absolute each reading joins the output to it once more
abbrev pub RelativeFolderIsJoinedTwice : Type 0
RelativeFolderIsJoinedTwice =
    ChangesTwice (cicc_reading (codes ".")) cicc_words "k.cpp1.ii -o p" "k.cpp1.ii -o ./p" "k.cpp1.ii -o ././p"
    × ChangesTwice (ptxas_reading (codes ".")) cicc_words "k.ptx -o p" "k.ptx -o ./p" "k.ptx -o ././p"
    × ChangesTwice (cudafe_reading (codes ".")) cudafe_words "--module_id_file_name p x" "--module_id_file_name ./p x" "--module_id_file_name ././p x"
