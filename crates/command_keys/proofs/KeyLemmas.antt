-- Keys are read back, and roots are renamed.
use Rattle.std.proofs.Common.{◌≡◌, ℕ, ◌-◌, Bool, true, false, cond, ◌&&◌, List, [], ◌∷◌, ◌++◌, refl, ap, sym, ◌∙◌, nat_lt, map, append_assoc, arith}
use Rattle.std.specs.List.{flat_map, list_all}
use Rattle.std.proofs.lemmas.Bool.{and_parts, and_from, not-true}
use Rattle.std.proofs.lemmas.List.{map-id}
use Rattle.std.proofs.lemmas.List.Folds.{list_all-append}
use Rattle.std.proofs.lemmas.Simd.{map-map}
use Rattle.texts.specs.Path.{lacks}
use Rattle.command_keys.specs.declared.marks.Part.{Part}
use Rattle.command_keys.specs.declared.marks.Part.TheVariants.{Byte, Root}
use Rattle.command_keys.specs.Marks.{parts, text_of, renamed, are_told}
use Rattle.command_keys.specs.Keys.{Command, Ended, texts_of, texts_of_variable, key_of_part, key_of_text, command_key, is_plain, is_plain_variable, renamed_command, word_end, name_end, value_end, first_mark}
use Rattle.command_keys.specs.KeyReading.{EndedParts, with_part, read_from, words_of, variables_behind, command_of, restored}
use Rattle.command_keys.specs.KeyLaws.{KeysReadBack, EqualKeysRename, RenamedKeysAreEqual}
use Rattle.command_keys.proofs.MarkLemmas.{text-parts, parts-told, plain-past, is_plain_part}

-- one text is read back, in front of the rest of a key
read-text : (ps : List Part) (end : ℕ) (rest : List ℕ) → list_all is_plain_part ps ≡ true → nat_lt end first_mark ≡ true →
    read_from false (flat_map key_of_part ps ++ 0 ∷ end ∷ rest) ≡ (ps, end) ∷ read_from false rest
read-text [] end rest plain small = ap (λ b. cond b (([], end) ∷ read_from false rest) (with_part (Root (end - first_mark)) (read_from false rest))) small
read-text (Byte byte ∷ ps) end rest plain small = grind (arith, not-true, (read-text ps end rest))
read-text (Root number ∷ ps) end rest plain small = grind (arith, (read-text ps end rest plain small))

-- what is asked of texts: no NUL in them, and an end below the letters
abbrev pub is_readable : Ended → Bool
is_readable text = lacks 0 text.0 && nat_lt text.1 first_mark

-- all texts are read back
pub read-texts : (roots : List (List ℕ)) (texts : List Ended) → list_all is_readable texts ≡ true →
    read_from false (flat_map (key_of_text roots) texts) ≡ map (λ text. (parts roots text.0, text.1)) texts
read-texts roots [] all = refl
read-texts roots (text ∷ texts) all = grind (arith, append_assoc, read-text, plain-past, (read-texts roots texts))

readable-words : (words : List (List ℕ)) → list_all (lacks 0) words ≡ true → list_all is_readable (map (λ word. (word, word_end)) words) ≡ true
readable-words [] all = refl
readable-words (word ∷ words) all = grind (arith, and_from, (readable-words words))

readable-variables : (variables : List (List ℕ × List ℕ)) → list_all is_plain_variable variables ≡ true → list_all is_readable (flat_map texts_of_variable variables) ≡ true
readable-variables [] all = refl
readable-variables (v ∷ variables) all = grind (arith, and_from, (readable-variables variables))

pub readable : (command : Command) → is_plain command ≡ true → list_all is_readable (texts_of command) ≡ true
readable command plain = grind (arith, and_parts, and_from, list_all-append, readable-words, readable-variables)

-- a command is made of its texts again
no-words : (variables : List (List ℕ × List ℕ)) → words_of (flat_map texts_of_variable variables) ≡ []
no-words [] = refl
no-words (v ∷ variables) = no-words variables

words-again : (words : List (List ℕ)) (texts : List Ended) → words_of texts ≡ [] → words_of (map (λ word. (word, word_end)) words ++ texts) ≡ words
words-again [] texts none = none
words-again (word ∷ words) texts none = ap (λ ws. word ∷ ws) (words-again words texts none)

variables-again : (name : List ℕ) (variables : List (List ℕ × List ℕ)) → variables_behind name (flat_map texts_of_variable variables) ≡ variables
variables-again name [] = refl
variables-again name (v ∷ variables) = ap (λ vs. v ∷ vs) (variables-again v.1 variables)

variables-behind_words : (name : List ℕ) (words : List (List ℕ)) (variables : List (List ℕ × List ℕ)) → variables_behind name (map (λ word. (word, word_end)) words ++ flat_map texts_of_variable variables) ≡ variables
variables-behind_words name [] variables = variables-again name variables
variables-behind_words name (word ∷ words) variables = variables-behind_words word words variables

command-again : (command : Command) → command_of (texts_of command) ≡ command
command-again command = simp (words-again, no-words, variables-behind_words)

-- the texts of a command, each changed
abbrev pub changed : (List ℕ → List ℕ) → Ended → Ended
changed change text = (change text.0, text.1)

changed-variables : (change : List ℕ → List ℕ) (variables : List (List ℕ × List ℕ)) → flat_map texts_of_variable (map (λ v. (change v.0, change v.1)) variables) ≡ map (changed change) (flat_map texts_of_variable variables)
changed-variables change [] = refl
changed-variables change (v ∷ variables) = ap (λ ts. (change v.0, name_end) ∷ (change v.1, value_end) ∷ ts) (changed-variables change variables)

pub changed-texts : (change : List ℕ → List ℕ) (words : List (List ℕ)) (variables : List (List ℕ × List ℕ)) → texts_of (map change words, map (λ v. (change v.0, change v.1)) variables) ≡ map (changed change) (texts_of (words, variables))
changed-texts change [] variables = changed-variables change variables
changed-texts change (word ∷ words) variables = ap (λ ts. (change word, word_end) ∷ ts) (changed-texts change words variables)

-- a key that is read with other roots is the command with these
restored-key : (roots others : List (List ℕ)) (command : Command) → is_plain command ≡ true → restored others (command_key roots command) ≡ renamed_command roots others command
restored-key roots others command plain =
    let seen : EndedParts → Ended = λ text. (text_of others text.0, text.1) in
    let cut : Ended → EndedParts = λ text. (parts roots text.0, text.1) in
    ap (λ texts. command_of (map seen texts)) (read-texts roots (texts_of command) (readable command plain))
    ∙ ap command_of (map-map seen cut (texts_of command))
    ∙ ap command_of (sym (changed-texts (renamed roots others) command.0 command.1))
    ∙ command-again (renamed_command roots others command)

-- the same roots change nothing
pub renamed-same : (roots : List (List ℕ)) (command : Command) → renamed_command roots roots command ≡ command
renamed-same roots command =
    (λ i. (map (λ text. text-parts roots text i) command.0, map (λ v. (text-parts roots v.0 i, text-parts roots v.1 i)) command.1))
    ∙ (λ i. (map-id command.0 i, map-id command.1 i))

pub keys-read_back : KeysReadBack
keys-read_back roots command plain = restored-key roots roots command plain ∙ renamed-same roots command

pub equal-keys_rename : EqualKeysRename
equal-keys_rename roots others command other plain plain' same =
    sym (keys-read_back others other plain') ∙ ap (restored others) (sym same) ∙ restored-key roots others command plain

-- a text with other roots in place of its own has the same parts
pub same-keys : (roots others : List (List ℕ)) (texts : List Ended) → list_all (λ text. are_told others (parts roots text.0)) texts ≡ true →
    flat_map (key_of_text others) (map (changed (renamed roots others)) texts) ≡ flat_map (key_of_text roots) texts
same-keys roots others [] all = refl
same-keys roots others (text ∷ texts) all = grind (arith, parts-told, (same-keys roots others texts))

pub renamed-keys_are_equal : RenamedKeysAreEqual
renamed-keys_are_equal roots others command free =
    ap (flat_map (key_of_text others)) (changed-texts (renamed roots others) command.0 command.1) ∙ same-keys roots others (texts_of command) free
