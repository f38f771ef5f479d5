-- Commands that are alike but for a checkout's folder run alike under the root.
use Rattle.std.proofs.Common.{◌≡◌, inl, inr, ℕ, Bool, true, false, not, ◌&&◌, ◌||◌, cond, nat_eq, eqb, List, [], ◌∷◌, ◌++◌, Option, Some, None, map, refl, ap, sym, ◌∙◌, subst, codes, bytes_eq}
use Rattle.std.specs.Bool.{beq}
use Rattle.std.specs.List.{AllZip, list_all, list_any, starts_with}
use Rattle.std.specs.Option.{is_some}
use Rattle.std.proofs.lemmas.Bool.{false≢true, and_parts, or_parts}
use Rattle.std.proofs.lemmas.List.Elements.{same_from_all_zip}
use Rattle.std.proofs.lemmas.List.{append_cancel_left}
use Rattle.std.proofs.lemmas.Slice.Eq.{bytes_eq-Decides}
use Rattle.texts.proofs.EqualityLemmas.{bools}
use Rattle.texts.specs.Equality.{words_eq}
use Rattle.texts.specs.Lists.{rest_after}
use Rattle.texts.specs.Path.{joined, lacks}
use Rattle.compilers.specs.Programs.{program_at}
use Rattle.compilers.specs.declared.plans.plan.NvccGeneratedSubcommand.{NvccGeneratedSubcommand}
use Rattle.compilers.specs.declared.plans.program.Program.{Program}
use Rattle.compilers.specs.declared.plans.program.Program.TheVariants as programs
use Rattle.command_files.specs.declared.files.CommandFiles.{CommandFiles}
use Rattle.command_files.specs.PlanNeeds.{preprocesses}
use Rattle.placed_commands.specs.PlacedCommands.{files_of}
use Rattle.placed_commands.specs.PlacedWords.{is_file, placed_from, placed_word, placed_words, word_behind}
use Rattle.rooted_commands.specs.Paths.{behind, place_of, put, rooted_path}
use Rattle.rooted_commands.specs.Commands.{ident_word, mapped_host, names_source, placed_tool, rooted_by, rooted_command, rooted_host, rooted_tool, source_words, tells_of_names, tool_words, with_ident, writes_names}
use Rattle.rooted_commands.specs.WrittenNames.{can_be_told, has_maps, is_map}
use Rattle.rooted_commands.specs.Checkouts.{Alike, AlikeBy, AlikeHosts, AlikePlansRunAlike, AlikeTools, AreMoved, EqualPathsAreOnePlace, RootedWordsAgree, RunAlike, RunAlikeBy, RunAsOne, TakesRoot, WriteAlike, are_names, are_one, are_paths, host_word_alike, host_words_alike, ident_of, ident_words_alike, in_top, is_one_generated, is_one_place, is_option, is_tool, names_among, names_of, names_or_words, same_ends, source_words_alike, with_root, words_alike}
use Rattle.rooted_commands.specs.declared.paths.Root.{Root}
use Rattle.rooted_commands.proofs.PathLemmas.{place-ends, rest_after-whole, stays}
use Rattle.rooted_commands.proofs.WrittenLemmas.{hosts-write-generated-paths, hosts-write-rooted-paths}

-- paths of one place have one rooted path
one-put : (root path name : List ℕ) (a b : Option (List ℕ)) → are_one a b (bytes_eq path name) ≡ true → put root path a ≡ put root name b
one-put root path name None None h = (bytes_eq-Decides path name).0 h
one-put root path name None (Some y) h = absurd (false≢true h)
one-put root path name (Some x) None h = absurd (false≢true h)
one-put root path name (Some x) (Some y) h = ap (λ t. root ++ t) ((bytes_eq-Decides x y).0 h)

one-rooted : (r s : Root) (path name : List ℕ) → r.root ≡ s.root → is_one_place r s path name ≡ true → rooted_path r path ≡ rooted_path s name
one-rooted r s path name root h = one-put r.root path name (place_of r path) (place_of s name) h ∙ ap (λ t. put t name (place_of s name)) root

-- paths that have one rooted path are one place
one-of : (r s : Root) (path name : List ℕ) → r.root ≡ s.root → behind r.root path ≡ None → behind s.root name ≡ None → (a b : Option (List ℕ)) → place_of r path ≡ a → place_of s name ≡ b → put r.root path a ≡ put s.root name b → are_one a b (bytes_eq path name) ≡ true
one-of r s path name root none nothing None None at there same = (bytes_eq-Decides path name).1 same
one-of r s path name root none nothing None (Some y) at there same =
    stays r.root path name y (place-ends s name y there) none (same ∙ ap (λ t. t ++ y) (sym root)) _
one-of r s path name root none nothing (Some x) None at there same =
    stays s.root name path x (place-ends r path x at) nothing (sym same ∙ ap (λ t. t ++ x) root) _
one-of r s path name root none nothing (Some x) (Some y) at there same =
    (bytes_eq-Decides x y).1 (append_cancel_left s.root x y (ap (λ t. t ++ x) (sym root) ∙ same))

pub equal-paths-are-one-place : EqualPathsAreOnePlace
equal-paths-are-one-place r s path name root none nothing same = one-of r s path name root none nothing (place_of r path) (place_of s name) refl refl same

-- parts of equal lists, and of words that are marked as names
first-same : (x y : Option (List ℕ)) (xs ys : List (Option (List ℕ))) → x ∷ xs ≡ y ∷ ys → x ≡ y
first-same x y xs ys h = cc

others-same : (x y : Option (List ℕ)) (xs ys : List (Option (List ℕ))) → x ∷ xs ≡ y ∷ ys → xs ≡ ys
others-same x y xs ys h = cc

marked : (b : Bool) (x : Option (List ℕ)) (p : List ℕ) → cond b (Some p) None ≡ x → is_some x ≡ b
marked true x p h = ap is_some (sym h)
marked false x p h = ap is_some (sym h)

same-mark : (b c : Bool) (p w : List ℕ) → cond b (Some p) None ≡ cond c (Some w) None → b ≡ c
same-mark b c p w h = sym (marked b (cond c (Some w) None) p h) ∙ marked c (cond c (Some w) None) w refl

same-name : (b c : Bool) (p w : List ℕ) → cond b (Some p) None ≡ cond c (Some w) None → b ≡ true → c ≡ true → p ≡ w
same-name b c p w h is also = let k : Some p ≡ Some w = ap (λ t. cond t (Some p) None) (sym is) ∙ h ∙ ap (λ t. cond t (Some w) None) also in cc

not-true : (b : Bool) → not b ≡ true → b ≡ false
not-true true e = absurd (false≢true e)
not-true false e = refl

-- words that each get a text by a function of the word before and the word, as a command's do when its files get whole paths
abbrev walk : (List ℕ → List ℕ → List ℕ) → List ℕ → List (List ℕ) → List (List ℕ)
walk f before [] = []
walk f before (w ∷ ws) = f before w ∷ walk f w ws

walk-placed : (files : CommandFiles) (folder before : List ℕ) (ws : List (List ℕ)) → placed_words files folder before ws ≡ walk (word_behind files folder) before ws
walk-placed files folder before [] = refl
walk-placed files folder before (w ∷ ws) = ap (λ t. word_behind files folder before w ∷ t) (walk-placed files folder w ws)

walk-same : (before : List ℕ) (ws : List (List ℕ)) → walk (λ _ w. w) before ws ≡ ws
walk-same before [] = refl
walk-same before (w ∷ ws) = ap (λ t. w ∷ t) (walk-same w ws)

-- all that the text depends on of the word before: whether it is the first option of the source's name
abbrev shows : List ℕ → Bool
shows before = bytes_eq before (codes "--orig_src_file_name")

-- a word that isn't the source's name, once its files have whole paths in each call's own folder
moved-behind-one : (folder other : List ℕ) (c : ℕ) (w v : List ℕ) → AreMoved folder other w v → AreMoved folder other (c ∷ w) (c ∷ v)
moved-behind-one folder other c w v (inl same) = inl (ap (λ t. c ∷ t) same)
moved-behind-one folder other c w v (inr (head, name, here, there)) = inr (c ∷ head, name, ap (λ t. c ∷ t) here, ap (λ t. c ∷ t) there)

whole-or-rest : (folder other name w v : List ℕ) (a b : Bool) → a ≡ b → AreMoved folder other w v
    → AreMoved folder other (cond a (joined folder name) w) (cond b (joined other name) v)
whole-or-rest folder other name w v true true h rest = inr ([], name, refl, refl)
whole-or-rest folder other name w v true false h rest = absurd (false≢true (sym h))
whole-or-rest folder other name w v false true h rest = absurd (false≢true h)
whole-or-rest folder other name w v false false h rest = rest

same-file : (begins a b : Bool) → (not begins || beq a b) ≡ true → (begins && a) ≡ (begins && b)
same-file true a b h = (bools a b).0 h
same-file false a b h = refl

moved-from : (files others : CommandFiles) (folder other : List ℕ) (begins : Bool) (w : List ℕ) → same_ends files others folder other begins w ≡ true
    → AreMoved folder other (placed_from files folder begins w) (placed_from others other begins w)
moved-from files others folder other begins [] h =
    whole-or-rest folder other [] [] [] (begins && is_file files folder []) (begins && is_file others other [])
    (same-file begins (is_file files folder []) (is_file others other []) h)
    (inl refl)
moved-from files others folder other begins (c ∷ cs) h =
    let here = is_file files folder (c ∷ cs) in
    let there = is_file others other (c ∷ cs) in
    let parts = and_parts (not begins || beq here there) (same_ends files others folder other (eqb c 61) cs) h in
    whole-or-rest folder other (c ∷ cs) (c ∷ placed_from files folder (eqb c 61) cs) (c ∷ placed_from others other (eqb c 61) cs) (begins && here) (begins && there)
    (same-file begins here there parts.0)
    (moved-behind-one folder other c (placed_from files folder (eqb c 61) cs) (placed_from others other (eqb c 61) cs) (moved-from files others folder other (eqb c 61) cs parts.1))

stays-or-moves : (folder other w p q : List ℕ) (a b : Bool) → a ≡ b → AreMoved folder other p q → AreMoved folder other (cond a w p) (cond b w q)
stays-or-moves folder other w p q true true h moved = inl refl
stays-or-moves folder other w p q true false h moved = absurd (false≢true (sym h))
stays-or-moves folder other w p q false true h moved = absurd (false≢true h)
stays-or-moves folder other w p q false false h moved = moved

moved-behind : (files others : CommandFiles) (folder other w0 v0 w : List ℕ) → shows v0 ≡ shows w0 → same_ends files others folder other true w ≡ true
    → AreMoved folder other (word_behind files folder w0 w) (word_behind others other v0 w)
moved-behind files others folder other w0 v0 w same ends =
    stays-or-moves folder other w (placed_word files folder w) (placed_word others other w) (shows w0 || starts_with nat_eq w (codes "--ident=")) (shows v0 || starts_with nat_eq w (codes "--ident="))
    (ap (λ b. b || starts_with nat_eq w (codes "--ident=")) (sym same))
    (moved-from files others folder other true w ends)

shows-not : (w0 v0 : List ℕ) → names_source w0 ≡ false → names_source v0 ≡ false → shows v0 ≡ shows w0
shows-not w0 v0 here there = (or_parts (shows v0) (bytes_eq v0 (codes "--orig_src_path_name")) there).0 ∙ sym (or_parts (shows w0) (bytes_eq w0 (codes "--orig_src_path_name")) here).0

-- Words of two calls that a function of each changes: what holds of words that both have, once they are changed, and of equal ones, holds of all
-- when names are rooted.
module _ (r s : Root) (root : r.root ≡ s.root) (E : List ℕ → List ℕ → Type 0) (equal-is : (w v : List ℕ) → w ≡ v → E w v) (f g : List ℕ → List ℕ → List ℕ) (good : List ℕ → Bool) (both : (w0 v0 w : List ℕ) → shows v0 ≡ shows w0 → good w ≡ true → E (f w0 w) (g v0 w)) where
  -- by texts that equal them
  holds-of : (w v p q : List ℕ) → p ≡ w → q ≡ v → E w v → E p q
  holds-of w v p q here there holds = subst (λ t. E t q) (sym here) (subst (λ t. E w t) (sym there) holds)

  both-words : (w0 v0 w v : List ℕ) → shows v0 ≡ shows w0 → w ≡ v → good w ≡ true → E (f w0 w) (g v0 v)
  both-words w0 v0 w v same equal is = subst (λ t. E (f w0 w) (g v0 t)) equal (both w0 v0 w same is)

  -- the words of a tool that names no source
  same-words : (w0 v0 : List ℕ) (ws vs : List (List ℕ)) → shows v0 ≡ shows w0 → words_eq ws vs ≡ true → list_all good ws ≡ true → AllZip E (walk f w0 ws) (walk g v0 vs)
  same-words w0 v0 [] [] same alike goods = tt
  same-words w0 v0 [] (v ∷ vs) same alike goods = absurd (false≢true alike)
  same-words w0 v0 (w ∷ ws) [] same alike goods = absurd (false≢true alike)
  same-words w0 v0 (w ∷ ws) (v ∷ vs) same alike goods =
      let parts = and_parts (bytes_eq w v) (words_eq ws vs) alike in
      let fit = and_parts (good w) (list_all good ws) goods in
      let equal : w ≡ v = (bytes_eq-Decides w v).0 parts.0 in
      (both-words w0 v0 w v same equal fit.0, same-words w v ws vs (ap shows (sym equal)) parts.1 fit.1)

  -- the words of cicc and cudafe++
  same-sources : (w0 v0 p0 q0 : List ℕ) (ws vs : List (List ℕ)) → names_source v0 ≡ names_source w0
      → names_among p0 (walk f w0 ws) ≡ names_among w0 ws → names_among q0 (walk g v0 vs) ≡ names_among v0 vs → source_words_alike r s w0 ws vs ≡ true
      → list_all good ws ≡ true → AllZip E (source_words r p0 (walk f w0 ws)) (source_words s q0 (walk g v0 vs))
  same-sources w0 v0 p0 q0 [] [] same here there alike goods = tt
  same-sources w0 v0 p0 q0 [] (v ∷ vs) same here there alike goods = absurd (false≢true alike)
  same-sources w0 v0 p0 q0 (w ∷ ws) [] same here there alike goods = absurd (false≢true alike)
  same-sources w0 v0 p0 q0 (w ∷ ws) (v ∷ vs) same here there alike goods =
      let p = f w0 w in
      let q = g v0 v in
      let ps = walk f w ws in
      let qs = walk g v vs in
      let first-here = first-same (cond (names_source p0) (Some p) None) (cond (names_source w0) (Some w) None) (names_among p ps) (names_among w ws) here in
      let first-there = first-same (cond (names_source q0) (Some q) None) (cond (names_source v0) (Some v) None) (names_among q qs) (names_among v vs) there in
      let others-here = others-same (cond (names_source p0) (Some p) None) (cond (names_source w0) (Some w) None) (names_among p ps) (names_among w ws) here in
      let others-there = others-same (cond (names_source q0) (Some q) None) (cond (names_source v0) (Some v) None) (names_among q qs) (names_among v vs) there in
      let mark-p : names_source p0 ≡ names_source w0 = same-mark (names_source p0) (names_source w0) p w first-here in
      let mark-q : names_source q0 ≡ names_source w0 = same-mark (names_source q0) (names_source v0) q v first-there ∙ same in
      let parts = and_parts (cond (names_source w0) (are_names r s w v) (bytes_eq w v)) (source_words_alike r s w ws vs) alike in
      let fit = and_parts (good w) (list_all good ws) goods in
      elim (names_source w0)
      as (λ b. names_source w0 ≡ b → cond b (are_names r s w v) (bytes_eq w v) ≡ true → AllZip E (source_words r p0 (p ∷ ps)) (source_words s q0 (q ∷ qs))) [
        | true ↦ λ is k.
            let names = and_parts (not (names_source w) && not (names_source v)) (is_one_place r s w v) k in
            let plain = and_parts (not (names_source w)) (not (names_source v)) names.0 in
            let next : names_source v ≡ names_source w = not-true (names_source v) plain.1 ∙ sym (not-true (names_source w) plain.0) in
            let p-is : p ≡ w = same-name (names_source p0) (names_source w0) p w first-here (mark-p ∙ is) is in
            let q-is : q ≡ v = same-name (names_source q0) (names_source v0) q v first-there (mark-q ∙ is) (same ∙ is) in
            let here-is : cond (names_source p0) (rooted_path r p) p ≡ rooted_path r w = ap (λ b. cond b (rooted_path r p) p) (mark-p ∙ is) ∙ ap (rooted_path r) p-is in
            let there-is : cond (names_source q0) (rooted_path s q) q ≡ rooted_path s v = ap (λ b. cond b (rooted_path s q) q) (mark-q ∙ is) ∙ ap (rooted_path s) q-is in
            let head : cond (names_source p0) (rooted_path r p) p ≡ cond (names_source q0) (rooted_path s q) q = here-is ∙ one-rooted r s w v root names.1 ∙ sym there-is in (
              equal-is (cond (names_source p0) (rooted_path r p) p) (cond (names_source q0) (rooted_path s q) q) head,
              same-sources w v p q ws vs next others-here others-there parts.1 fit.1,
            )
        | false ↦ λ is k.
            let equal : w ≡ v = (bytes_eq-Decides w v).0 k in
            let word : E p q = both-words w0 v0 w v (shows-not w0 v0 is (same ∙ is)) equal fit.0 in
            let here-is : cond (names_source p0) (rooted_path r p) p ≡ p = ap (λ b. cond b (rooted_path r p) p) (mark-p ∙ is) in
            let there-is : cond (names_source q0) (rooted_path s q) q ≡ q = ap (λ b. cond b (rooted_path s q) q) (mark-q ∙ is) in (
              holds-of p q (cond (names_source p0) (rooted_path r p) p) (cond (names_source q0) (rooted_path s q) q) here-is there-is word,
              same-sources w v p q ws vs (ap names_source (sym equal)) others-here others-there parts.1 fit.1,
            )
      ] refl parts.0

  -- the words of fatbinary
  ident-shows : (word name : List ℕ) → ident_of word ≡ Some name → shows word ≡ false
  ident-shows word name is = ap shows (rest_after-whole (codes "--ident=") word name is)

  same-idents : (w0 v0 : List ℕ) (ws vs : List (List ℕ)) → shows v0 ≡ shows w0 → map ident_of (walk f w0 ws) ≡ map ident_of ws → map ident_of (walk g v0 vs) ≡ map ident_of vs
      → ident_words_alike r s ws vs ≡ true → list_all good ws ≡ true → AllZip E (map (ident_word r) (walk f w0 ws)) (map (ident_word s) (walk g v0 vs))
  same-idents w0 v0 [] [] same here there alike goods = tt
  same-idents w0 v0 [] (v ∷ vs) same here there alike goods = absurd (false≢true alike)
  same-idents w0 v0 (w ∷ ws) [] same here there alike goods = absurd (false≢true alike)
  same-idents w0 v0 (w ∷ ws) (v ∷ vs) same here there alike goods =
      let p = f w0 w in
      let q = g v0 v in
      let ps = walk f w ws in
      let qs = walk g v vs in
      let first-here : ident_of p ≡ ident_of w = first-same (ident_of p) (ident_of w) (map ident_of ps) (map ident_of ws) here in
      let first-there : ident_of q ≡ ident_of v = first-same (ident_of q) (ident_of v) (map ident_of qs) (map ident_of vs) there in
      let others-here = others-same (ident_of p) (ident_of w) (map ident_of ps) (map ident_of ws) here in
      let others-there = others-same (ident_of q) (ident_of v) (map ident_of qs) (map ident_of vs) there in
      let parts = and_parts (names_or_words r s (ident_of w) (ident_of v) (bytes_eq w v)) (ident_words_alike r s ws vs) alike in
      let fit = and_parts (good w) (list_all good ws) goods in
      elim (ident_of w) as (λ a. ident_of w ≡ a → names_or_words r s a (ident_of v) (bytes_eq w v) ≡ true → AllZip E (map (ident_word r) (p ∷ ps)) (map (ident_word s) (q ∷ qs))) [
        | None ↦ λ e.
            elim (ident_of v) as (λ b. ident_of v ≡ b → names_or_words r s None b (bytes_eq w v) ≡ true → AllZip E (map (ident_word r) (p ∷ ps)) (map (ident_word s) (q ∷ qs))) [
              | None ↦ λ h k.
                  let equal : w ≡ v = (bytes_eq-Decides w v).0 k in
                  let here-is : ident_word r p ≡ p = ap (with_ident r p) (first-here ∙ e) in
                  let there-is : ident_word s q ≡ q = ap (with_ident s q) (first-there ∙ h) in (
                    holds-of p q (ident_word r p) (ident_word s q) here-is there-is (both-words w0 v0 w v same equal fit.0),
                    same-idents w v ws vs (ap shows (sym equal)) others-here others-there parts.1 fit.1,
                  )
              | Some m ↦ λ _ k. absurd (false≢true k)
            ] refl
        | Some n ↦ λ e.
            elim (ident_of v) as (λ b. ident_of v ≡ b → names_or_words r s (Some n) b (bytes_eq w v) ≡ true → AllZip E (map (ident_word r) (p ∷ ps)) (map (ident_word s) (q ∷ qs))) [
              | None ↦ λ _ k. absurd (false≢true k)
              | Some m ↦ λ h k.
                  let head : ident_word r p ≡ ident_word s q =
                  ap (with_ident r p) (first-here ∙ e)
                  ∙ ap (λ t. codes "--ident=" ++ t) (one-rooted r s n m root k)
                  ∙ sym (ap (with_ident s q) (first-there ∙ h)) in (
                    equal-is (ident_word r p) (ident_word s q) head,
                    same-idents w v ws vs (ident-shows v m h ∙ sym (ident-shows w n e)) others-here others-there parts.1 fit.1,
                  )
            ] refl
      ] refl parts.0

  -- any tool's
  walked-words : (tool : Program) (ws vs : List (List ℕ)) → is_tool tool ≡ true → words_alike r s tool ws vs ≡ true → list_all good ws ≡ true
      → names_of tool (walk f [] ws) ≡ names_of tool ws → names_of tool (walk g [] vs) ≡ names_of tool vs
      → AllZip E (tool_words r tool (walk f [] ws)) (tool_words s tool (walk g [] vs))
  walked-words programs.Cicc ws vs tool alike goods here there = same-sources [] [] [] [] ws vs refl here there alike goods
  walked-words programs.Cudafe ws vs tool alike goods here there = same-sources [] [] [] [] ws vs refl here there alike goods
  walked-words programs.Fatbinary ws vs tool alike goods here there = same-idents [] [] ws vs refl here there alike goods
  walked-words programs.Ptxas ws vs tool alike goods here there = same-words [] [] ws vs refl alike goods
  walked-words programs.Nvlink ws vs tool alike goods here there = same-words [] [] ws vs refl alike goods
  walked-words programs.Other ws vs tool alike goods here there = absurd (false≢true tool)

-- words as they stand
any-good : (ws : List (List ℕ)) → list_all (λ _. true) ws ≡ true
any-good [] = refl
any-good (w ∷ ws) = any-good ws

pub rooted-words-agree : RootedWordsAgree
rooted-words-agree r s tool ws vs is root alike =
    let words : AllZip (λ (w v : List ℕ). v ≡ w) (tool_words r tool (walk (λ _ w. w) [] ws)) (tool_words s tool (walk (λ _ w. w) [] vs)) =
    walked-words r s root (λ w v. v ≡ w) (λ w v e. sym e) (λ _ w. w) (λ _ w. w) (λ _. true) (λ w0 v0 w e k. refl) tool ws vs is alike (any-good ws)
    (ap (names_of tool) (walk-same [] ws)) (ap (names_of tool) (walk-same [] vs)) in
    ap (tool_words r tool) (sym (walk-same [] ws))
    ∙ sym (same_from_all_zip (λ w v. v ≡ w) (tool_words r tool (walk (λ _ w. w) [] ws)) (tool_words s tool (walk (λ _ w. w) [] vs)) words (λ w v e. e))
    ∙ ap (tool_words s tool) (walk-same [] vs)

-- the words of a tool's command in `/`
placed-alike : (r s : Root) (tool : Program) (c d : NvccGeneratedSubcommand) → r.root ≡ s.root → is_tool tool ≡ true → AlikeTools r s tool c d
    → AllZip (AreMoved r.tmp s.tmp) (tool_words r tool (in_top c).args) (tool_words s tool (in_top d).args)
placed-alike r s tool c d root is alike =
    let f = word_behind (files_of c) c.cwd in
    let g = word_behind (files_of d) d.cwd in
    let here : (in_top c).args ≡ walk f [] c.args = walk-placed (files_of c) c.cwd [] c.args in
    let there : (in_top d).args ≡ walk g [] d.args = walk-placed (files_of d) d.cwd [] d.args in
    let words : AllZip (AreMoved c.cwd d.cwd) (tool_words r tool (walk f [] c.args)) (tool_words s tool (walk g [] d.args)) =
    walked-words r s root (AreMoved c.cwd d.cwd) (λ w v e. inl e) f g (same_ends (files_of c) (files_of d) c.cwd d.cwd true)
    (moved-behind (files_of c) (files_of d) c.cwd d.cwd)
    tool c.args d.args is alike.words alike.ends
    (ap (names_of tool) (sym here) ∙ alike.first.keeps_names)
    (ap (names_of tool) (sym there) ∙ alike.second.keeps_names) in
    let ours = subst (λ ws. AllZip (AreMoved c.cwd d.cwd) (tool_words r tool ws) (tool_words s tool (walk g [] d.args))) (sym here) words in
    let both = subst (λ vs. AllZip (AreMoved c.cwd d.cwd) (tool_words r tool (in_top c).args) (tool_words s tool vs)) (sym there) ours in
    let first = subst (λ t. AllZip (AreMoved t d.cwd) (tool_words r tool (in_top c).args) (tool_words s tool (in_top d).args)) alike.first.cwd both in
    subst (λ t. AllZip (AreMoved r.tmp t) (tool_words r tool (in_top c).args) (tool_words s tool (in_top d).args)) alike.second.cwd first

-- such a command takes the root
takes-root : (r : Root) (tool : Program) (c : NvccGeneratedSubcommand) → TakesRoot r tool c → placed_tool r tool c ≡ with_root r tool (in_top c)
takes-root r tool c takes = ap (rooted_tool r tool) takes.is_placed ∙ ap (λ b. cond b (with_root r tool (in_top c)) (in_top c)) takes.keeps_rooted

tools-run-alike : (r s : Root) (tool : Program) (c d : NvccGeneratedSubcommand) → r.root ≡ s.root → is_tool tool ≡ true → AlikeTools r s tool c d
    → RunAsOne r s (with_root r tool (in_top c)) (with_root s tool (in_top d))
tools-run-alike r s tool c d root is alike =
    record { exe = alike.exe; args = placed-alike r s tool c d root is alike; cwd = refl; env_vars = alike.env_vars; cacheable = alike.cacheable }

-- a word that is no option, and one that begins with `-I`, ask for nothing
abbrev AsksNothing : List ℕ → Type 0
AsksNothing w = (bytes_eq (codes "-E") w ≡ false) × (tells_of_names w ≡ false) × (is_map w ≡ false)

no-dash : (c : ℕ) (cs : List ℕ) → is_option (c ∷ cs) ≡ false → eqb 45 c ≡ false
no-dash c cs h = elim (eqb 45 c) as (λ b. is_some (cond b (Some cs) None) ≡ false → b ≡ false) [ true ↦ λ k. k | false ↦ λ _. refl ] h

path-asks-nothing : (w : List ℕ) → is_option w ≡ false → AsksNothing w
path-asks-nothing [] h = (refl, refl, refl)
path-asks-nothing (c ∷ cs) h =
    let e = no-dash c cs h in (
      ap (λ b. b && bytes_eq (codes "E") cs) e,
      ap (λ b. (b && starts_with nat_eq cs (codes "g")) || (b && bytes_eq (codes "D__NVCC__") cs)) e,
      ap (λ b. is_some (cond b (rest_after (codes "ffile-prefix-map=") cs) None) || (is_some (cond b (rest_after (codes "fdebug-prefix-map=") cs) None) || is_some (cond b (rest_after (codes "fmacro-prefix-map=") cs) None))) e,
    )

include-asks-nothing : (w name : List ℕ) → rest_after (codes "-I") w ≡ Some name → AsksNothing w
include-asks-nothing w name is = subst AsksNothing (sym (rest_after-whole (codes "-I") w name is)) (refl, refl, refl)

abbrev AskTheSame : List ℕ → List ℕ → Type 0
AskTheSame w v = (bytes_eq (codes "-E") w ≡ bytes_eq (codes "-E") v) × (tells_of_names w ≡ tells_of_names v) × (is_map w ≡ is_map v)

neither-asks : (w v : List ℕ) → AsksNothing w → AsksNothing v → AskTheSame w v
neither-asks w v a b = (a.0 ∙ sym b.0, a.1 ∙ sym b.1, a.2 ∙ sym b.2)

words-ask-the-same : (r s : Root) (w v : List ℕ) → host_word_alike r s w v ≡ true → AskTheSame w v
words-ask-the-same r s w v alike =
    let include = λ (a b : Option (List ℕ)). names_or_words r s a b false in
    let paths : are_paths r s w v ≡ true → AskTheSame w v = λ k.
    let plain = and_parts (not (is_option w) && not (is_option v)) (is_one_place r s w v || is_one_generated r s w v) k in
    let parts = and_parts (not (is_option w)) (not (is_option v)) plain.0 in
    neither-asks w v (path-asks-nothing w (not-true (is_option w) parts.0)) (path-asks-nothing v (not-true (is_option v) parts.1)) in
    let includes : include (rest_after (codes "-I") w) (rest_after (codes "-I") v) ≡ true → AskTheSame w v =
    elim (rest_after (codes "-I") w) as (λ a. rest_after (codes "-I") w ≡ a → include a (rest_after (codes "-I") v) ≡ true → AskTheSame w v) [
      | None ↦ λ _.
          elim (rest_after (codes "-I") v) as (λ b. include None b ≡ true → AskTheSame w v) [ None ↦ λ k. absurd (false≢true k) | Some m ↦ λ k. absurd (false≢true k) ]
      | Some n ↦ λ e.
          elim (rest_after (codes "-I") v) as (λ b. rest_after (codes "-I") v ≡ b → include (Some n) b ≡ true → AskTheSame w v) [
            | None ↦ λ _ k. absurd (false≢true k)
            | Some m ↦ λ f _. neither-asks w v (include-asks-nothing w n e) (include-asks-nothing v m f)
          ] refl
    ] refl in
    let others : (are_paths r s w v || include (rest_after (codes "-I") w) (rest_after (codes "-I") v)) ≡ true → AskTheSame w v =
    elim (are_paths r s w v)
    as (λ b. are_paths r s w v ≡ b → (b || include (rest_after (codes "-I") w) (rest_after (codes "-I") v)) ≡ true → AskTheSame w v)
    [ true ↦ λ e _. paths e | false ↦ λ _ k. includes k ] refl in
    elim (bytes_eq w v)
    as (λ b. bytes_eq w v ≡ b → (b || (are_paths r s w v || include (rest_after (codes "-I") w) (rest_after (codes "-I") v))) ≡ true → AskTheSame w v) [
      | true ↦ λ e _. let equal : w ≡ v = (bytes_eq-Decides w v).0 e in subst (AskTheSame w) equal (refl, refl, refl)
      | false ↦ λ _ k. others k
    ] refl alike

all-ask-the-same : (r s : Root) (ws vs : List (List ℕ)) → host_words_alike r s ws vs ≡ true →
    (preprocesses ws ≡ preprocesses vs) × (list_any tells_of_names ws ≡ list_any tells_of_names vs) × (has_maps ws ≡ has_maps vs)
all-ask-the-same r s [] [] alike = (refl, refl, refl)
all-ask-the-same r s [] (v ∷ vs) alike = absurd (false≢true alike)
all-ask-the-same r s (w ∷ ws) [] alike = absurd (false≢true alike)
all-ask-the-same r s (w ∷ ws) (v ∷ vs) alike =
    let parts = and_parts (host_word_alike r s w v) (host_words_alike r s ws vs) alike in
    let here = words-ask-the-same r s w v parts.0 in
    let rest = all-ask-the-same r s ws vs parts.1 in
    (λ i. here.0 i || rest.0 i, λ i. here.1 i || rest.1 i, λ i. here.2 i || rest.2 i)

-- host compilers
exe-stays : (r : Root) (c : NvccGeneratedSubcommand) → (rooted_host r c).exe ≡ c.exe
exe-stays r c = elim (writes_names c.args) as (λ b. (cond b (mapped_host r c) c).exe ≡ c.exe) [ true ↦ refl | false ↦ refl ]

variables-stay : (r : Root) (c : NvccGeneratedSubcommand) → (rooted_host r c).env_vars ≡ c.env_vars
variables-stay r c = elim (writes_names c.args) as (λ b. (cond b (mapped_host r c) c).env_vars ≡ c.env_vars) [ true ↦ refl | false ↦ refl ]

module _ (r s : Root) (root : r.root ≡ s.root) (can : can_be_told r ≡ true) (c d : NvccGeneratedSubcommand) where
  hosts-write-alike : program_at c.exe ≡ programs.Other → AlikeHosts r s c d → WriteAlike r s c d
  hosts-write-alike is alike =
      let also : program_at d.exe ≡ programs.Other = ap program_at (sym alike.exe) ∙ is in
      let here : rooted_command r c ≡ rooted_host r c = ap (λ p. rooted_by r p c) is in
      let there : rooted_command s d ≡ rooted_host s d = ap (λ p. rooted_by s p d) also in
      let same = all-ask-the-same r s c.args d.args alike.words in
      let both : writes_names c.args ≡ writes_names d.args = λ i. same.0 i || same.1 i in
      record {
        exe = ap (λ x. x.exe) here ∙ exe-stays r c ∙ alike.exe ∙ sym (ap (λ x. x.exe) there ∙ exe-stays s d);
        env_vars = ap (λ x. x.env_vars) here ∙ variables-stay r c ∙ alike.env_vars ∙ sym (ap (λ x. x.env_vars) there ∙ variables-stay s d);
        both = both;
        names = λ path name writes clear also-clear one.
            hosts-write-rooted-paths r c path is writes alike.own_maps can clear
            ∙ one-rooted r s path name root one
            ∙ sym (hosts-write-rooted-paths s d name also (sym both ∙ writes) (sym same.2 ∙ alike.own_maps) (ap (lacks 61) (sym root) ∙ can) also-clear);
        generated = λ rest writes.
            hosts-write-generated-paths r c rest is writes alike.own_maps
            ∙ sym (hosts-write-generated-paths s d rest also (sym both ∙ writes) (sym same.2 ∙ alike.own_maps));
      }

  -- a tool's command
  tools-run : (tool : Program) → program_at c.exe ≡ tool → is_tool tool ≡ true → ((q : Root) (x : NvccGeneratedSubcommand) → rooted_by q tool x ≡ placed_tool q tool x)
      → AlikeTools r s tool c d → RunAsOne r s (rooted_command r c) (rooted_command s d)
  tools-run tool is tools by alike =
      let here : rooted_command r c ≡ with_root r tool (in_top c) = ap (λ p. rooted_by r p c) is ∙ by r c ∙ takes-root r tool c alike.first in
      let there : rooted_command s d ≡ with_root s tool (in_top d) =
      ap (λ p. rooted_by s p d) (ap program_at (sym alike.exe) ∙ is) ∙ by s d ∙ takes-root s tool d alike.second in
      let both = tools-run-alike r s tool c d root tools alike in
      subst (λ x. RunAsOne r s x (rooted_command s d)) (sym here) (subst (λ x. RunAsOne r s (with_root r tool (in_top c)) x) (sym there) both)

  commands-run-alike : Alike r s c d → RunAlike r s c d
  commands-run-alike alike =
      elim (program_at c.exe) as (λ p. program_at c.exe ≡ p → AlikeBy p r s c d → RunAlikeBy p r s c d) [
        | programs.Cicc ↦ λ is it. tools-run programs.Cicc is refl (λ q x. refl) it
        | programs.Cudafe ↦ λ is it. tools-run programs.Cudafe is refl (λ q x. refl) it
        | programs.Ptxas ↦ λ is it. tools-run programs.Ptxas is refl (λ q x. refl) it
        | programs.Fatbinary ↦ λ is it. tools-run programs.Fatbinary is refl (λ q x. refl) it
        | programs.Nvlink ↦ λ is it. tools-run programs.Nvlink is refl (λ q x. refl) it
        | programs.Other ↦ λ is it. hosts-write-alike is it
      ] refl alike

-- plans, place by place
zip-all : {A B : Type 0} (R S : A → B → Type 0) → ((x : A) (y : B) → R x y → S x y) → (xs : List A) (ys : List B) → AllZip R xs ys → AllZip S xs ys
zip-all R S f [] [] h = h
zip-all R S f [] (y ∷ ys) h = h
zip-all R S f (x ∷ xs) [] h = h
zip-all R S f (x ∷ xs) (y ∷ ys) h = (f x y h.0, zip-all R S f xs ys h.1)

pub alike-plans-run-alike : AlikePlansRunAlike
alike-plans-run-alike r s plan other root can alike =
    zip-all (AllZip (Alike r s)) (AllZip (RunAlike r s)) (zip-all (Alike r s) (RunAlike r s) (commands-run-alike r s root can)) plan.groups other.groups alike
