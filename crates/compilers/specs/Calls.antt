-- What is asked of an nvcc line, as definitions see it.
use Rattle.std.specs.Prelude.{ℕ, List, map, string_bytes}
use Rattle.compilers.specs.declared.calls.NvccCall.{NvccCall}
use Rattle.compilers.specs.declared.calls.DirectoryCall.{DirectoryCall}

-- a call that reads an nvcc line: the working directory, the temporary directory, nvcc and the line's words
pub record NvccOf : Type 0 where
  pub cwd : List ℕ
  pub tmp : List ℕ
  pub nvcc : List ℕ
  pub words : List (List ℕ)

-- a call, as the code holds it
abbrev pub nvcc_of : NvccCall → NvccOf
nvcc_of call = record { cwd = call.cwd.now; tmp = call.tmp.now; nvcc = call.nvcc.now; words = map string_bytes call.words.now }

-- a call that asks for the name: the working directory, nvcc and the line's words
pub record DirectoryOf : Type 0 where
  pub cwd : List ℕ
  pub nvcc : List ℕ
  pub words : List (List ℕ)

-- a call, as the code holds it
abbrev pub directory_of : DirectoryCall → DirectoryOf
directory_of call = record { cwd = call.cwd.now; nvcc = call.nvcc.now; words = map string_bytes call.words.now }
