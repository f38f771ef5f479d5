-- The arguments of a line that says nothing but its input, the file that a command is run for, and answers.
use Rattle.std.specs.Prelude.{ℕ, List, [], false, Option, Some, None, Result, Ok, Err, codes}
use Rattle.texts.specs.declared.language.Language.{Language}
use Rattle.compilers.specs.declared.arguments.ParsedArguments.{ParsedArguments}
use Rattle.compilers.specs.declared.arguments.ColorMode.TheVariants.{Off}
use Rattle.compilers.specs.declared.arguments.CompilerArguments.{CompilerArguments}
use Rattle.compilers.specs.declared.arguments.CompilerArguments.TheVariants as answer
use Rattle.compilers.specs.declared.outputs.ArtifactDescriptor.{ArtifactDescriptor}
use Rattle.texts.specs.declared.fault.Fault.{Fault}
use Rattle.texts.specs.declared.fault.Fault.TheVariants.{MissingOutput}
use Rattle.compilers.specs.Outputs.{entry_at}

-- the arguments of a line with this input, language and outputs, without any word
abbrev pub plain_arguments : List ℕ → Language → List (List ℕ × ArtifactDescriptor) → ParsedArguments
plain_arguments input language outputs = record {
  input = input;
  outputs = outputs;
  double_dash_input = false;
  language = language;
  compilation_flag = [];
  depfile = None;
  dependency_args = [];
  preprocessor_args = [];
  common_args = [];
  arch_args = [];
  unhashed_args = [];
  extra_dist_files = [];
  extra_hash_files = [];
  uses_external_assembler = false;
  msvc_show_includes = false;
  msvc_explicit_language = false;
  profile_generate = false;
  color_mode = Off;
  suppress_rewrite_includes_only = false;
  too_hard_for_preprocessor_cache_mode = None;
}

-- a file that may be missing, or the refusal of arguments of a language without it
abbrev pub obj_or_missing : Language → Option ArtifactDescriptor → Result ArtifactDescriptor Fault
obj_or_missing language None = Err (MissingOutput language)
obj_or_missing language (Some obj) = Ok obj

-- the file that arguments are for: the output `obj`
abbrev pub obj_of : ParsedArguments → Result ArtifactDescriptor Fault
obj_of p = obj_or_missing p.language (entry_at (codes "obj") p.outputs)

-- what is seen of an answer: what it holds, the text that no cache can serve with a word on it, or neither
abbrev pub answer_seen : {T : Type 0} → CompilerArguments T → Result T (Option (List ℕ × Option (List ℕ)))
answer_seen (answer.Ok x) = Ok x
answer_seen (answer.CannotCache text word) = Err (Some (text.now, word))
answer_seen answer.NotCompilation = Err None
