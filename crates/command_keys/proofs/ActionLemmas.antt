-- Actions' keys are read back, and their roots are renamed.
use Rattle.std.proofs.Common.{◌≡◌, ℕ, true, List, [], ◌∷◌, ◌++◌, refl, ap, sym, ◌∙◌, map, arith}
use Rattle.std.specs.List.{flat_map, list_all}
use Rattle.std.proofs.lemmas.Bool.{and_parts, and_from}
use Rattle.std.proofs.lemmas.List.{map-id}
use Rattle.std.proofs.lemmas.List.Folds.{list_all-append}
use Rattle.std.proofs.lemmas.Simd.{map-map}
use Rattle.texts.specs.Path.{lacks}
use Rattle.command_keys.specs.ActionLaws.{EqualActionsRename, RenamedActionsAreEqual}
use Rattle.command_keys.specs.ActionReading.{ended, paired, action_of, restored_action}
use Rattle.command_keys.specs.Actions.{Shared, texts_of_input, texts_of_action, action_key, is_plain_action, renamed_action, path_end, digest_end, output_end, tool_end}
use Rattle.command_keys.specs.KeyReading.{EndedParts}
use Rattle.command_keys.specs.Keys.{Ended, texts_of, texts_of_variable, is_plain_variable, key_of_text, word_end, name_end, value_end}
use Rattle.command_keys.specs.Marks.{parts, text_of, renamed}
use Rattle.command_keys.proofs.KeyLemmas.{changed, changed-texts, is_readable, read-texts, readable, renamed-same, same-keys}
use Rattle.command_keys.proofs.MarkLemmas.{text-parts}

-- what is asked of texts to be read back
readable-inputs : (inputs : List (List ℕ × List ℕ)) → list_all is_plain_variable inputs ≡ true → list_all is_readable (flat_map texts_of_input inputs) ≡ true
readable-inputs [] all = refl
readable-inputs (i ∷ inputs) all = grind (arith, and_from, (readable-inputs inputs))

readable-outputs : (outputs : List (List ℕ)) → list_all (lacks 0) outputs ≡ true → list_all is_readable (map (λ output. (output, output_end)) outputs) ≡ true
readable-outputs [] all = refl
readable-outputs (o ∷ outputs) all = grind (arith, and_from, (readable-outputs outputs))

readable-action : (action : Shared) → is_plain_action action ≡ true → list_all is_readable (texts_of_action action) ≡ true
readable-action action plain = grind (arith, and_parts, and_from, list_all-append, readable, readable-inputs, readable-outputs)

-- the texts with an end of two lists in a row
ended-append : (end : ℕ) (texts others : List Ended) → ended end (texts ++ others) ≡ ended end texts ++ ended end others
ended-append end [] others = refl
ended-append end (text ∷ texts) others = grind (arith, (ended-append end texts others))

-- the texts of a command have ends of their own
abbrev of_words : List (List ℕ) → List Ended
of_words words = map (λ word. (word, word_end)) words

abbrev of_outputs : List (List ℕ) → List Ended
of_outputs outputs = map (λ output. (output, output_end)) outputs

abbrev of_variables : List (List ℕ × List ℕ) → List Ended
of_variables variables = flat_map texts_of_variable variables

abbrev of_inputs : List (List ℕ × List ℕ) → List Ended
of_inputs inputs = flat_map texts_of_input inputs

words-own : (words : List (List ℕ)) → ended word_end (of_words words) ≡ words
words-own [] = refl
words-own (w ∷ ws) = ap (λ r. w ∷ r) (words-own ws)

outputs-own : (outputs : List (List ℕ)) → ended output_end (of_outputs outputs) ≡ outputs
outputs-own [] = refl
outputs-own (o ∷ os) = ap (λ r. o ∷ r) (outputs-own os)

words-no_name : (ws : List (List ℕ)) → ended name_end (of_words ws) ≡ []
words-no_name [] = refl
words-no_name (w ∷ ws) = words-no_name ws

words-no_value : (ws : List (List ℕ)) → ended value_end (of_words ws) ≡ []
words-no_value [] = refl
words-no_value (w ∷ ws) = words-no_value ws

words-no_path : (ws : List (List ℕ)) → ended path_end (of_words ws) ≡ []
words-no_path [] = refl
words-no_path (w ∷ ws) = words-no_path ws

words-no_digest : (ws : List (List ℕ)) → ended digest_end (of_words ws) ≡ []
words-no_digest [] = refl
words-no_digest (w ∷ ws) = words-no_digest ws

words-no_output : (ws : List (List ℕ)) → ended output_end (of_words ws) ≡ []
words-no_output [] = refl
words-no_output (w ∷ ws) = words-no_output ws

outputs-no_word : (os : List (List ℕ)) → ended word_end (of_outputs os) ≡ []
outputs-no_word [] = refl
outputs-no_word (o ∷ os) = outputs-no_word os

outputs-no_name : (os : List (List ℕ)) → ended name_end (of_outputs os) ≡ []
outputs-no_name [] = refl
outputs-no_name (o ∷ os) = outputs-no_name os

outputs-no_value : (os : List (List ℕ)) → ended value_end (of_outputs os) ≡ []
outputs-no_value [] = refl
outputs-no_value (o ∷ os) = outputs-no_value os

outputs-no_path : (os : List (List ℕ)) → ended path_end (of_outputs os) ≡ []
outputs-no_path [] = refl
outputs-no_path (o ∷ os) = outputs-no_path os

outputs-no_digest : (os : List (List ℕ)) → ended digest_end (of_outputs os) ≡ []
outputs-no_digest [] = refl
outputs-no_digest (o ∷ os) = outputs-no_digest os

variables-no_word : (vs : List (List ℕ × List ℕ)) → ended word_end (of_variables vs) ≡ []
variables-no_word [] = refl
variables-no_word (v ∷ vs) = variables-no_word vs

variables-no_path : (vs : List (List ℕ × List ℕ)) → ended path_end (of_variables vs) ≡ []
variables-no_path [] = refl
variables-no_path (v ∷ vs) = variables-no_path vs

variables-no_digest : (vs : List (List ℕ × List ℕ)) → ended digest_end (of_variables vs) ≡ []
variables-no_digest [] = refl
variables-no_digest (v ∷ vs) = variables-no_digest vs

variables-no_output : (vs : List (List ℕ × List ℕ)) → ended output_end (of_variables vs) ≡ []
variables-no_output [] = refl
variables-no_output (v ∷ vs) = variables-no_output vs

inputs-no_word : (is : List (List ℕ × List ℕ)) → ended word_end (of_inputs is) ≡ []
inputs-no_word [] = refl
inputs-no_word (i ∷ is) = inputs-no_word is

inputs-no_name : (is : List (List ℕ × List ℕ)) → ended name_end (of_inputs is) ≡ []
inputs-no_name [] = refl
inputs-no_name (i ∷ is) = inputs-no_name is

inputs-no_value : (is : List (List ℕ × List ℕ)) → ended value_end (of_inputs is) ≡ []
inputs-no_value [] = refl
inputs-no_value (i ∷ is) = inputs-no_value is

inputs-no_output : (is : List (List ℕ × List ℕ)) → ended output_end (of_inputs is) ≡ []
inputs-no_output [] = refl
inputs-no_output (i ∷ is) = inputs-no_output is

-- pairs are made of their texts again
variables-own : (vs : List (List ℕ × List ℕ)) → paired (ended name_end (of_variables vs)) (ended value_end (of_variables vs)) ≡ vs
variables-own [] = refl
variables-own (v ∷ vs) = ap (λ r. v ∷ r) (variables-own vs)

inputs-own : (is : List (List ℕ × List ℕ)) → paired (ended path_end (of_inputs is)) (ended digest_end (of_inputs is)) ≡ is
inputs-own [] = refl
inputs-own (i ∷ is) = ap (λ r. i ∷ r) (inputs-own is)

append-nil : (xs : List (List ℕ)) → xs ++ [] ≡ xs
append-nil [] = refl
append-nil (x ∷ xs) = ap (λ r. x ∷ r) (append-nil xs)

-- an action is made of its texts again
words-read : (a : Shared) → ended word_end (texts_of_action a) ≡ a.command.0
words-read a = simp (ended-append, words-own, variables-no_word, inputs-no_word, outputs-no_word, append-nil)

names-read : (a : Shared) → ended name_end (texts_of_action a) ≡ ended name_end (of_variables a.command.1)
names-read a = simp (ended-append, words-no_name, inputs-no_name, outputs-no_name, append-nil)

values-read : (a : Shared) → ended value_end (texts_of_action a) ≡ ended value_end (of_variables a.command.1)
values-read a = simp (ended-append, words-no_value, inputs-no_value, outputs-no_value, append-nil)

paths-read : (a : Shared) → ended path_end (texts_of_action a) ≡ ended path_end (of_inputs a.inputs)
paths-read a = simp (ended-append, words-no_path, variables-no_path, outputs-no_path, append-nil)

digests-read : (a : Shared) → ended digest_end (texts_of_action a) ≡ ended digest_end (of_inputs a.inputs)
digests-read a = simp (ended-append, words-no_digest, variables-no_digest, outputs-no_digest, append-nil)

outputs-read : (a : Shared) → ended output_end (texts_of_action a) ≡ a.outputs
outputs-read a = simp (ended-append, outputs-own, words-no_output, variables-no_output, inputs-no_output, append-nil)

variables-read : (a : Shared) → paired (ended name_end (texts_of_action a)) (ended value_end (texts_of_action a)) ≡ a.command.1
variables-read a = (λ i. paired (names-read a i) (values-read a i)) ∙ variables-own a.command.1

inputs-read : (a : Shared) → paired (ended path_end (texts_of_action a)) (ended digest_end (texts_of_action a)) ≡ a.inputs
inputs-read a = (λ i. paired (paths-read a i) (digests-read a i)) ∙ inputs-own a.inputs

action-again : (a : Shared) → action_of (texts_of_action a) ≡ a
action-again a = λ i. record { tool = a.tool; command = (words-read a i, variables-read a i); inputs = inputs-read a i; outputs = outputs-read a i }

-- the texts of an action, each changed
map-append : (change : Ended → Ended) (xs ys : List Ended) → map change (xs ++ ys) ≡ map change xs ++ map change ys
map-append change [] ys = refl
map-append change (x ∷ xs) ys = ap (λ r. change x ∷ r) (map-append change xs ys)

changed-inputs : (change : List ℕ → List ℕ) (is : List (List ℕ × List ℕ)) → of_inputs (map (λ i. (change i.0, change i.1)) is) ≡ map (changed change) (of_inputs is)
changed-inputs change [] = refl
changed-inputs change (i ∷ is) = ap (λ ts. (change i.0, path_end) ∷ (change i.1, digest_end) ∷ ts) (changed-inputs change is)

changed-outputs : (change : List ℕ → List ℕ) (os : List (List ℕ)) → of_outputs (map change os) ≡ map (changed change) (of_outputs os)
changed-outputs change [] = refl
changed-outputs change (o ∷ os) = ap (λ ts. (change o, output_end) ∷ ts) (changed-outputs change os)

changed-action : (roots others : List (List ℕ)) (a : Shared) → texts_of_action (renamed_action roots others a) ≡ map (changed (renamed roots others)) (texts_of_action a)
changed-action roots others a =
    let change : List ℕ → List ℕ = renamed roots others in
    let each : Ended → Ended = changed change in
    let first : List Ended = (a.tool, tool_end) ∷ texts_of a.command in
    let inputs : List Ended = of_inputs a.inputs in
    let outputs : List Ended = of_outputs a.outputs in
    (λ i. (change a.tool, tool_end) ∷ changed-texts change a.command.0 a.command.1 i ++ changed-inputs change a.inputs i ++ changed-outputs change a.outputs i)
    ∙ sym (map-append each (first ++ inputs) outputs ∙ ap (λ r. r ++ map each outputs) (map-append each first inputs))

-- a key that is read with other roots is the action with these
restored-key : (roots others : List (List ℕ)) (a : Shared) → is_plain_action a ≡ true → restored_action others (action_key roots a) ≡ renamed_action roots others a
restored-key roots others a plain =
    let seen : EndedParts → Ended = λ text. (text_of others text.0, text.1) in
    let cut : Ended → EndedParts = λ text. (parts roots text.0, text.1) in
    ap (λ texts. action_of (map seen texts)) (read-texts roots (texts_of_action a) (readable-action a plain))
    ∙ ap action_of (map-map seen cut (texts_of_action a))
    ∙ ap action_of (sym (changed-action roots others a))
    ∙ action-again (renamed_action roots others a)

-- the same roots change nothing
same-inputs : (roots : List (List ℕ)) (is : List (List ℕ × List ℕ)) → map (λ v. (renamed roots roots v.0, renamed roots roots v.1)) is ≡ is
same-inputs roots is = (λ i. map (λ v. (text-parts roots v.0 i, text-parts roots v.1 i)) is) ∙ map-id is

same-outputs : (roots : List (List ℕ)) (os : List (List ℕ)) → map (renamed roots roots) os ≡ os
same-outputs roots os = (λ i. map (λ text. text-parts roots text i) os) ∙ map-id os

renamed-same_action : (roots : List (List ℕ)) (a : Shared) → renamed_action roots roots a ≡ a
renamed-same_action roots a =
    λ i. record { tool = text-parts roots a.tool i; command = renamed-same roots a.command i; inputs = same-inputs roots a.inputs i; outputs = same-outputs roots a.outputs i }

actions-read_back : (roots : List (List ℕ)) (a : Shared) → is_plain_action a ≡ true → restored_action roots (action_key roots a) ≡ a
actions-read_back roots a plain = restored-key roots roots a plain ∙ renamed-same_action roots a

pub equal-actions_rename : EqualActionsRename
equal-actions_rename roots others action other plain plain' same =
    sym (actions-read_back others other plain') ∙ ap (restored_action others) (sym same) ∙ restored-key roots others action plain

pub renamed-actions_are_equal : RenamedActionsAreEqual
renamed-actions_are_equal roots others action free =
    ap (flat_map (key_of_text others)) (changed-action roots others action) ∙ same-keys roots others (texts_of_action action) free
