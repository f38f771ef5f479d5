-- The one-kernel dry run: what nvcc prints for one kernel and one architecture. The names of its generated files are made of a text.
use Rattle.std.specs.Prelude.{◌≡◌, ℕ, List, [], ◌∷◌, ◌++◌, codes}
use Rattle.texts.specs.Rows.{blank_separated}
use Rattle.compilers.specs.CommandLines.{CommandLine}

-- what nvcc prints
abbrev pub printed_of : List ℕ → List ℕ
printed_of name =
    codes "#$ PATH=/b\n" ++
    codes "#$ gcc -D__CUDACC__ -E -x c++ \"kernel.cu\" -o \"" ++ name ++ codes ".cpp4.ii\"\n" ++
    codes "#$ cudafe++ --gen_c_file_name \"" ++ name ++ codes ".cudafe1.cpp\" --stub_file_name \"" ++ name ++
    codes ".cudafe1.stub.c\" --module_id_file_name \"kernel.module_id\" --simt-only \"" ++ name ++
    codes ".cpp4.ii\"\n" ++
    codes "#$ gcc -D__CUDA_ARCH__=800 -D__CUDACC__ -E -x c++ \"kernel.cu\" -o \"" ++ name ++ codes ".cpp1.ii\"\n" ++
    codes "#$ cicc --device-c -arch compute_80 --module_id_file_name \"kernel.module_id\" --gen_c_file_name \"" ++
    name ++ codes ".cudafe1.c\" --stub_file_name \"" ++ name ++
    codes ".cudafe1.stub.c\" --gen_device_file_name \"kernel.cudafe1.gpu\" \"" ++ name ++
    codes ".cpp1.ii\" --simt-only -o \"kernel.ptx\"\n" ++
    codes "#$ ptxas -arch=sm_80 --compile-only \"kernel.ptx\" -o \"kernel.cubin\"\n" ++
    codes "#$ fatbinary --create=\"kernel.fatbin\" \"--image3=kind=elf,sm=80,file=kernel.cubin\" --embedded-fatbin=\"kernel.fatbin.c\" --device-c\n" ++
    codes "#$ gcc -D__CUDA_ARCH__=800 -D__CUDACC__ -c -x c++ \"" ++ name ++ codes ".cudafe1.cpp\" -o \"kernel.o\"\n"

-- a command line of a dry run, its words in one text with blanks between them
abbrev pub at : ℕ → List ℕ → List ℕ → CommandLine
at line program words = (line, program, blank_separated words)

-- its commands
abbrev pub commands_of : List ℕ → List CommandLine
commands_of name =
    at 1 (codes "/b/gcc") (codes "-D__CUDACC__ -E -x c++ kernel.cu -o " ++ (name ++ codes ".cpp4.ii")) ∷
    at 2 (codes "/b/cudafe++") (codes "--gen_c_file_name " ++ (name ++ (codes ".cudafe1.cpp --stub_file_name " ++
    (name ++ (codes ".cudafe1.stub.c --module_id_file_name kernel.module_id --simt-only " ++
    (name ++ codes ".cpp4.ii")))))) ∷
    at 3 (codes "/b/gcc") (codes "-D__CUDA_ARCH__=800 -D__CUDACC__ -E -x c++ kernel.cu -o " ++
    (name ++ codes ".cpp1.ii")) ∷
    at 4 (codes "/b/cicc") (codes "--device-c -arch compute_80 --module_id_file_name kernel.module_id --gen_c_file_name " ++
    (name ++ (codes ".cudafe1.c --stub_file_name " ++
    (name ++ (codes ".cudafe1.stub.c --gen_device_file_name kernel.cudafe1.gpu " ++
    (name ++ codes ".cpp1.ii --simt-only -o kernel.ptx")))))) ∷
    at 5 (codes "/b/ptxas") (codes "-arch=sm_80 --compile-only kernel.ptx -o kernel.cubin") ∷
    at 6 (codes "/b/fatbinary") (codes "--create=kernel.fatbin --image3=kind=elf,sm=80,file=kernel.cubin --embedded-fatbin=kernel.fatbin.c --device-c") ∷
    at 7 (codes "/b/gcc") (codes "-D__CUDA_ARCH__=800 -D__CUDACC__ -c -x c++ " ++
    (name ++ codes ".cudafe1.cpp -o kernel.o")) ∷
    []

-- the dry run and its commands: as nvcc names the files, with other names, and with the files in the folder `/t`
abbrev pub one_kernel : List ℕ
one_kernel = printed_of (codes "kernel")

abbrev pub one_kernel_commands : List CommandLine
one_kernel_commands = commands_of (codes "kernel")

abbrev pub one_kernel_elsewhere : List ℕ
one_kernel_elsewhere = printed_of (codes "a1")

abbrev pub one_kernel_elsewhere_commands : List CommandLine
one_kernel_elsewhere_commands = commands_of (codes "a1")

abbrev pub one_kernel_in_temporary : List ℕ
one_kernel_in_temporary = printed_of (codes "/t/kernel")

abbrev pub one_kernel_in_temporary_commands : List CommandLine
one_kernel_in_temporary_commands = commands_of (codes "/t/kernel")

-- its canonical run
abbrev pub one_kernel_canonical : List CommandLine
one_kernel_canonical = commands_of (codes "x_0")

-- an example: a command's words are cut at blanks
abbrev pub WordsOfACommand : Type 0
WordsOfACommand = at 5 (codes "/b/ptxas") (codes "kernel.ptx -o kernel.cubin") ≡ (5, codes "/b/ptxas", codes "kernel.ptx" ∷ codes "-o" ∷ codes "kernel.cubin" ∷ [])
