-- What the reader of device tools' lines has gathered, and how one more item changes it.
use Rattle.std.specs.Prelude.{ℕ, List, [], ◌++◌, false, ◌||◌, if◌then◌else◌, None, fold, option_to_list}
use Rattle.compilers.specs.declared.arguments.ParsedArguments.{ParsedArguments}
use Rattle.texts.specs.declared.language.Language.{Language}
use Rattle.compilers.specs.declared.outputs.ArtifactDescriptor.{ArtifactDescriptor}
use Rattle.compilers.specs.Outputs.{with_entry}
use Rattle.compilers.specs.Arguments.{plain_arguments}
use Rattle.compilers.specs.Items.{Item, words_of, kind_of}
use Rattle.device_lines.specs.declared.options.ArgData.{ArgData}
use Rattle.device_lines.specs.declared.reader.gathered.Gathered.{Gathered}
use Rattle.device_lines.specs.declared.reader.named_files.NamedFiles.{NamedFiles}
use Rattle.device_lines.specs.Reading.{is_common, is_unknown, is_unhashed_kind, output_of, module_id_of, module_id_output, module_id_file, is_generating}
use Rattle.texts.specs.Lists.{latest}

-- nothing yet
abbrev pub no_files : NamedFiles
no_files = record { outputs = []; module_id = None; makes_module_id = false }

abbrev pub nothing_gathered : Gathered
nothing_gathered = record { common = []; unhashed = []; files = no_files; after_unknown = false }

-- the files of one more item
abbrev pub with_files_of : List ℕ → NamedFiles → Item ArgData → NamedFiles
with_files_of cwd f i = record {
  outputs = fold with_entry f.outputs (option_to_list (output_of cwd i));
  module_id = latest f.module_id (module_id_of i);
  makes_module_id = f.makes_module_id || is_generating i;
}

-- one more item
abbrev pub with_item : List ℕ → Gathered → Item ArgData → Gathered
with_item cwd g i = record {
  common = if is_common (g.after_unknown, i) then g.common ++ words_of i else g.common;
  unhashed = if is_unhashed_kind (kind_of i) then g.unhashed ++ words_of i else g.unhashed;
  files = with_files_of cwd g.files i;
  after_unknown = is_unknown i;
}

-- what the files of all items are, with the module id file if the tool writes it
abbrev pub all_outputs : List ℕ → NamedFiles → List (List ℕ × ArtifactDescriptor)
all_outputs cwd f = fold with_entry f.outputs (module_id_output cwd f.makes_module_id f.module_id)

-- what the reader gathered of all items, as arguments
abbrev pub reading_of_gathered : List ℕ → Language → List ℕ → Gathered → ParsedArguments
reading_of_gathered cwd language input g = record (plain_arguments input language (all_outputs cwd g.files)) {
  common_args = g.common;
  unhashed_args = g.unhashed;
  extra_dist_files = module_id_file cwd g.files.makes_module_id g.files.module_id;
  extra_hash_files = module_id_file cwd g.files.makes_module_id g.files.module_id;
}
