use Rattle.std.proofs.Common.{◌≡◌, [], ◌∷◌, ◌++◌, ◌∙◌, ap, sym, subst, map, append-nil, arith}
use Rattle.std.proofs.lemmas.Grind.{common_steps}
use Rattle.std.proofs.lemmas.List.{nil_from_length, map-append}
use Rattle.compilers.specs.CommandLines.{line_seen, words_of_command}
use Rattle.canonical_names.specs.Renaming.{seen_after, renamed, renamed_after, renamed_words, with_words}
use Rattle.canonical_names.proofs.RemapLemmas.{commands-step}
use Rattle.canonical_names.proofs.remap.remap_commands.Goals as goal

pub loop-command-preserved : goal.loop-command-preserved
loop-command-preserved c =
    let suffixes = c.args.suffixes.now in
    let before = c.loop-command.renames in
    let after = c.remap_words.new.renames in
    let done = map line_seen c.loop-command.renamed.items in
    let command = line_seen c.in-Some.command in
    let rest = map line_seen c.next.new.self.rest.items in
    let target = renamed suffixes c.args.commands in
    let lists : before.0 ≡ suffixes = c.loop-command.invariant.suffixes in
    let left : map line_seen c.loop-command.command-iterator.rest.items ≡ command ∷ rest = ap (map line_seen) c.in-Some.ensures.steps.0 in
    let put : map line_seen c.push.new.self.items ≡ done ++ with_words command (renamed_words suffixes before.1 (words_of_command command)) ∷ [] =
    grind (arith, common_steps, map-append) in
    let seen : after.1 ≡ seen_after suffixes before.1 (words_of_command command) = grind (arith, common_steps) in
    record {
      suffixes = grind (arith, common_steps);
      commands = ap (λ d. d ++ renamed_after suffixes after.1 rest) put
          ∙ ap (λ names. (done ++ with_words command (renamed_words suffixes before.1 (words_of_command command)) ∷ []) ++ renamed_after suffixes names rest) seen
          ∙ commands-step suffixes before.1 done target rest command (subst (λ cs. done ++ renamed_after suffixes before.1 cs ≡ target) left c.loop-command.invariant.commands);
    }

pub returns : goal.returns
returns c =
    let suffixes = c.args.suffixes.now in
    let names = c.loop-command.renames.1 in
    let done = map line_seen c.loop-command.renamed.items in
    let rest = c.loop-command.command-iterator.rest in
    let none_left : rest.items ≡ [] = nil_from_length _ (sym rest.ok.0 ∙ c.in-None.ensures.steps.0) in
    c.from_vec.ensures ∙ sym (append-nil done) ∙ ap (λ cs. done ++ renamed_after suffixes names (map line_seen cs)) (sym none_left) ∙ c.loop-command.invariant.commands
