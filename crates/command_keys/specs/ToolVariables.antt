-- The environment variables that count in a key.
--
-- How they were found: a library put before the C library (LD_PRELOAD) wrote down each `getenv` of the tools of nvcc 13.0, of gcc 12 and of
-- clang 14, for calls with -c, -G, -g, -lineinfo, -dlto and -rdc=true; `strings` on ptxas showed one more. gcc's manual has those for the
-- language, which the C library reads, and ld.so(8) those of the loader. Left out are those for temporary files, colours, logs, numbers of threads
-- and PATH: they change where something is, or a message, and a program that PATH finds is part of what a cache knows of the tool, as is a
-- library that LD_LIBRARY_PATH finds.
use Rattle.std.specs.Prelude.{◌≡◌, ℕ, List, [], ◌∷◌, ◌++◌, if◌then◌else◌, Option, Some, None, refl, codes, flat_map, bytes_eq}
use Rattle.std.specs.Option.{option_map_or}
use Rattle.texts.specs.Lists.{latest}
use Rattle.compilers.specs.declared.plans.program.Program.{Program}
use Rattle.compilers.specs.declared.plans.program.Program.TheVariants.{Cicc, Ptxas, Cudafe, Fatbinary, Nvlink, Other}

-- The variables that the C library and its loader read in any tool: which other code is loaded, and with which instructions libm computes. cicc
-- has libm compute constants: `cos(8.1764856122660277)` is another one without FMA.
abbrev pub read_by_loader : List (List ℕ)
read_by_loader = codes "GLIBC_TUNABLES" ∷ codes "LD_AUDIT" ∷ codes "LD_PRELOAD" ∷ []

-- the variables that a tool reads itself. Any other program counts as a host compiler: gcc, or clang
abbrev pub read_by_code : Program → List (List ℕ)
read_by_code Cicc =
    codes "EDG_BASE" ∷ codes "EDG_MODULES_PATH" ∷ codes "LLVM_OVERRIDE_PRODUCER" ∷ codes "NVVMCCWIZ" ∷ codes "NVVM_IR_VER_CHK"
    ∷ codes "NV_NVVM_VERSION" ∷ codes "PWD" ∷ codes "USR_INCLUDE" ∷ []
read_by_code Ptxas = codes "CAN_FINALIZE_DEBUG" ∷ codes "DUMP_KNOBS_TO_FILE" ∷ []
read_by_code Cudafe = codes "EDG_BASE" ∷ codes "EDG_MODULES_PATH" ∷ codes "USR_INCLUDE" ∷ []
read_by_code Fatbinary = []
read_by_code Nvlink = codes "CAN_FINALIZE_DEBUG" ∷ codes "LIBRARY_PATH" ∷ []
read_by_code Other =
    codes "BINUTILS_ROOT" ∷ codes "CCC_OVERRIDE_OPTIONS" ∷ codes "COMPILER_PATH" ∷ codes "CPATH" ∷ codes "CPLUS_INCLUDE_PATH"
    ∷ codes "C_INCLUDE_PATH" ∷ codes "DEPENDENCIES_OUTPUT" ∷ codes "G++_ROOT" ∷ codes "GCC_COMPARE_DEBUG" ∷ codes "GCC_EXEC_PREFIX"
    ∷ codes "GCC_ROOT" ∷ codes "LANG" ∷ codes "LC_ALL" ∷ codes "LC_CTYPE" ∷ codes "LC_MESSAGES"
    ∷ codes "LIBRARY_PATH" ∷ codes "LLVM_OVERRIDE_PRODUCER" ∷ codes "LPATH" ∷ codes "PWD" ∷ codes "SOURCE_DATE_EPOCH"
    ∷ codes "SUNPRO_DEPENDENCIES" ∷ []

-- the variables that a tool reads, in the order of a key
abbrev pub read_by : Program → List (List ℕ)
read_by tool = read_by_loader ++ read_by_code tool

-- the value of a variable in an environment; of a name that occurs twice, the last one
abbrev pub last_value : List ℕ → List (List ℕ × List ℕ) → Option (List ℕ)
last_value name [] = None
last_value name (variable ∷ rest) = latest (if bytes_eq variable.0 name then Some variable.1 else None) (last_value name rest)

-- the variable of a name with its value, if an environment sets it
abbrev pub variable_of : List (List ℕ × List ℕ) → List ℕ → List (List ℕ × List ℕ)
variable_of environment name = option_map_or (λ value. (name, value) ∷ []) (last_value name environment) []

-- the variables that a tool reads, as far as an environment sets them
abbrev pub tool_variables : Program → List (List ℕ × List ℕ) → List (List ℕ × List ℕ)
tool_variables tool environment = flat_map (variable_of environment) (read_by tool)

-- Examples: the order of the environment doesn't count, and of two values the last one does; those of the loader count for each tool.
pub variables_of_cudafe :
    tool_variables Cudafe ((codes "USR_INCLUDE", codes "/a") ∷ (codes "HOME", codes "/") ∷ (codes "EDG_BASE", codes "/b") ∷ (codes "USR_INCLUDE", codes "/c") ∷ [])
    ≡ (codes "EDG_BASE", codes "/b") ∷ (codes "USR_INCLUDE", codes "/c") ∷ []
variables_of_cudafe = refl

pub variables_of_fatbinary :
    tool_variables Fatbinary ((codes "LD_PRELOAD", codes "/l.so") ∷ (codes "EDG_BASE", codes "/b") ∷ [])
    ≡ (codes "LD_PRELOAD", codes "/l.so") ∷ []
variables_of_fatbinary = refl
