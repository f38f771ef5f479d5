-- Lines that are read and written back, worked out by hand.
use Rattle.std.proofs.Common.{◌≡◌, ℕ, List, [], ◌∷◌, ◌++◌, false, Option, Some, None, Result, Ok, Err, codes, option_map}
use Rattle.std.specs.Result.{result_map_both}
use Rattle.texts.specs.declared.language.Language.TheVariants as languages
use Rattle.texts.specs.declared.fault.Fault.{Fault}
use Rattle.texts.specs.declared.fault.Fault.TheVariants.{MissingOutput}
use Rattle.compilers.specs.declared.arguments.ParsedArguments.{ParsedArguments}
use Rattle.compilers.specs.Arguments.{plain_arguments}
use Rattle.compilers.specs.Command.{written}
use Rattle.texts.specs.Rows.{spaced}
use Rattle.device_lines.specs.Cicc.{cicc_reading}
use Rattle.device_lines.specs.CudaFE.{cudafe_reading}
use Rattle.device_lines.specs.Ptxas.{ptxas_reading}
use Rattle.device_lines.specs.Reading.{made_at}
use Rattle.device_lines.specs.DeviceWords.{cicc_words, cudafe_words}

-- the words that arguments are written back as at a working directory, or why there are none; nothing if a line is no compilation
abbrev pub words_back : (ParsedArguments → List ℕ → List (List ℕ)) → List ℕ → Option ParsedArguments → Option (Result (List (List ℕ)) Fault)
words_back words_to_write cwd read = option_map (λ p. result_map_both (λ c. c.0.arguments) (λ e. e) (written words_to_write [] p cwd [])) read

-- a cicc line, read at a working directory and written back
abbrev pub cicc_written_back : List ℕ → List (List ℕ) → Option (Result (List (List ℕ)) Fault)
cicc_written_back cwd words = words_back cicc_words cwd (cicc_reading cwd words)

-- the device-code line
abbrev pub device_code_words : List (List ℕ)
device_code_words =
    spaced "--device-c -arch compute_80 --module_id_file_name kernel.module_id kernel.cpp1.ii --simt-only -o kernel.ptx"

-- it is read at `.`: its output and the module id file, which cicc reads, are joined to that
abbrev pub DeviceCodeLineIsRead : Type 0
DeviceCodeLineIsRead =
    cicc_reading (codes ".") device_code_words
    ≡ Some (record (plain_arguments (codes "kernel.cpp1.ii") languages.Ptx ((codes "obj", made_at false (codes "./kernel.ptx")) ∷ [])) {
      common_args = spaced "--device-c -arch compute_80 --module_id_file_name kernel.module_id --simt-only";
      extra_dist_files = spaced "./kernel.module_id";
      extra_hash_files = spaced "./kernel.module_id";
    })

-- the device-code line: the input moves after the other words, and the output's path is joined
abbrev pub DeviceCodeLine : Type 0
DeviceCodeLine =
    cicc_written_back (codes "/w") device_code_words ≡
    Some (Ok (spaced "--device-c -arch compute_80 --module_id_file_name kernel.module_id --simt-only kernel.cpp1.ii -o /w/kernel.ptx"))

-- the input is cut out first, so that the word after it follows the one before it: `bar` is the value of `-foo`, and `baz` is dropped
abbrev pub InputIsCutOutFirst : Type 0
InputIsCutOutFirst =
    cicc_written_back (codes "/w") (spaced "-foo k.cpp1.ii bar baz -o p") ≡
    Some (Ok (spaced "-foo bar k.cpp1.ii -o /w/p"))

-- two words, and no word, where the input would be the third from the end
abbrev pub ShortLineIsNoCompilation : Type 0
ShortLineIsNoCompilation =
    (cicc_reading (codes "/w") (spaced "a b") ≡ None)
    × (cicc_reading (codes "/w") [] ≡ None)
    × (ptxas_reading (codes "/w") [] ≡ None)
    × (cudafe_reading (codes "/w") [] ≡ None)

-- of three words none of which ends like an input, the first is the third from the end; the others are dropped as raw
-- words, and no output is left
abbrev pub ThirdWordFromTheEndIsTheInput : Type 0
ThirdWordFromTheEndIsTheInput =
    (cicc_reading (codes "/w") (spaced "a b c") ≡ Some (plain_arguments (codes "a") languages.Ptx []))
    × (cicc_written_back (codes "/w") (spaced "a b c") ≡ Some (Err (MissingOutput languages.Ptx)))

-- each of the three tools drops a last option without its value, and writes nothing back without an output
abbrev pub FaultyItemIsDropped : Type 0
FaultyItemIsDropped =
    (cicc_written_back (codes "/w") (spaced "k.cpp1.ii -o") ≡ Some (Err (MissingOutput languages.Ptx)))
    × (words_back cicc_words (codes "/w") (ptxas_reading (codes "/w") (spaced "k.ptx -o")) ≡ Some (Err (MissingOutput languages.Cubin)))
    × (words_back cudafe_words (codes "/w") (cudafe_reading (codes "/w") (spaced "--module_id_file_name x.cpp4.ii"))
    ≡ Some (Err (MissingOutput languages.CudaFE)))

-- a cudafe++ line at `/t`: the module id file is its main output, and the other file that it writes is recorded under its
-- option; the stub file isn't
abbrev pub HostLineIsRead : Type 0
HostLineIsRead =
    cudafe_reading (codes "/t")
    (spaced "--gen_c_file_name x_0.cudafe1.cpp --stub_file_name x_0.cudafe1.stub.c --gen_module_id_file"
    ++ spaced "--module_id_file_name kernel.module_id --simt-only x_0.cpp4.ii")
    ≡ Some (record (plain_arguments (codes "x_0.cpp4.ii") languages.CudaFE
    ((codes "--gen_c_file_name", made_at false (codes "/t/x_0.cudafe1.cpp"))
    ∷ (codes "obj", made_at false (codes "/t/kernel.module_id")) ∷ [])) {
      common_args = spaced "--gen_module_id_file --simt-only";
      unhashed_args = spaced "--gen_c_file_name x_0.cudafe1.cpp --stub_file_name x_0.cudafe1.stub.c";
    })
