-- Rooted paths of two checkouts agree, and those of two files differ.
use Rattle.std.proofs.Common.{◌≡◌, ◌⊎◌, inl, inr, ℕ, true, false, cond, eqb, eqb-true, List, [], ◌∷◌, ◌++◌, Some, None, refl, ap, sym, ◌∙◌, subst, option_and_then}
use Rattle.std.specs.Option.{option_or, is_some}
use Rattle.std.proofs.lemmas.List.{append_cancel_left}
use Rattle.texts.specs.Lists.{first_word, rest_after}
use Rattle.texts.specs.Path.{joined}
use Rattle.texts.proofs.RestLemmas.{rest_after-append}
use Rattle.rooted_commands.specs.Paths.{ends_name, if_name_ends, behind, behind_first, own_in, own_path, place, place_of, put, rooted_path}
use Rattle.rooted_commands.specs.Laws.{CheckoutsAgree, PathsStayDistinct, OneFolderIsExact, RootedPathsLeadHome}
use Rattle.rooted_commands.specs.declared.paths.Root.{Root}

-- a text with what follows it
pub rest_after-whole : (p s rest : List ℕ) → rest_after p s ≡ Some rest → s ≡ p ++ rest
rest_after-whole [] s rest h = cc
rest_after-whole (c ∷ cs) [] rest h = cc
rest_after-whole (c ∷ cs) (d ∷ ds) rest h =
    elim (eqb c d) as (λ b. eqb c d ≡ b → cond b (rest_after cs ds) None ≡ Some rest → d ∷ ds ≡ c ∷ (cs ++ rest)) [
      | true ↦ λ e k. λ i. sym (eqb-true c d e) i ∷ rest_after-whole cs ds rest k i
      | false ↦ λ _ k. cc
    ] refl h

-- what is behind a folder
pub behind-below : (folder rest : List ℕ) → ends_name rest ≡ true → behind folder (folder ++ rest) ≡ Some rest
behind-below folder rest ends = ap (option_and_then if_name_ends) (rest_after-append folder rest) ∙ ap (λ b. cond b (Some rest) None) ends

ended : (q rest : List ℕ) → if_name_ends q ≡ Some rest → (q ≡ rest) × (ends_name rest ≡ true)
ended q rest h =
    elim (ends_name q) as (λ b. ends_name q ≡ b → cond b (Some q) None ≡ Some rest → (q ≡ rest) × (ends_name rest ≡ true)) [
      | true ↦ λ e k. let same : q ≡ rest = cc in (same, subst (λ t. ends_name t ≡ true) same e)
      | false ↦ λ _ k. cc
    ] refl h

behind-parts : (folder path rest : List ℕ) → behind folder path ≡ Some rest → (path ≡ folder ++ rest) × (ends_name rest ≡ true)
behind-parts folder path rest h =
    elim (rest_after folder path) as (λ o. rest_after folder path ≡ o → option_and_then if_name_ends o ≡ Some rest → (path ≡ folder ++ rest) × (ends_name rest ≡ true)) [
      | None ↦ λ _ k. cc
      | Some q ↦ λ e k. let parts = ended q rest k in (rest_after-whole folder path rest (e ∙ ap Some parts.0), parts.1)
    ] refl h

first-ends : (folders : List (List ℕ)) (path rest : List ℕ) → behind_first folders path ≡ Some rest → ends_name rest ≡ true
first-ends [] path rest h = cc
first-ends (folder ∷ folders) path rest h =
    elim (behind folder path) as (λ o. behind folder path ≡ o → option_or o (behind_first folders path) ≡ Some rest → ends_name rest ≡ true) [
      | None ↦ λ _ k. first-ends folders path rest k
      | Some q ↦ λ e k. (behind-parts folder path rest (e ∙ k)).1
    ] refl h

-- a place is behind one of the folders
not-generated : (r : Root) (path rest : List ℕ) → place r path ≡ Some rest → behind_first r.folders path ≡ Some rest
not-generated r path rest h =
    elim (is_some (behind r.tmp path)) as (λ b. cond b None (behind_first r.folders path) ≡ Some rest → behind_first r.folders path ≡ Some rest)
    [ true ↦ λ k. cc | false ↦ λ k. k ] h

place-below : (r : Root) (folder rest : List ℕ) (folders : List (List ℕ)) → r.folders ≡ folder ∷ folders → ends_name rest ≡ true → behind r.tmp (folder ++ rest) ≡ None → place r (folder ++ rest) ≡ Some rest
place-below r folder rest folders is ends none =
    ap (λ o. cond (is_some o) None (behind_first r.folders (folder ++ rest))) none
    ∙ ap (λ fs. behind_first fs (folder ++ rest)) is
    ∙ ap (λ o. option_or o (behind_first folders (folder ++ rest))) (behind-below folder rest ends)

rooted-below : (r : Root) (folder rest path : List ℕ) (folders : List (List ℕ)) → r.folders ≡ folder ∷ folders → ends_name rest ≡ true → joined r.cwd path ≡ folder ++ rest → behind r.tmp (folder ++ rest) ≡ None → rooted_path r path ≡ r.root ++ rest
rooted-below r folder rest path folders is ends whole none = ap (put r.root path) (ap (place r) whole ∙ place-below r folder rest folders is ends none)

pub checkouts-agree : CheckoutsAgree
checkouts-agree r s folder other rest path name folders others is its root ends whole named none generated =
    rooted-below r folder rest path folders is ends whole none ∙ ap (λ t. t ++ rest) root ∙ sym (rooted-below s other rest name others its ends named generated)

-- a path below the root is below the folder
home : (s : Root) (other rest : List ℕ) (others : List (List ℕ)) → s.folders ≡ other ∷ others → ends_name rest ≡ true → own_path s (s.root ++ rest) ≡ other ++ rest
home s other rest others its ends =
    ap (λ fs. own_in s (s.root ++ rest) (first_word fs)) its ∙ ap (put other (s.root ++ rest)) (behind-below s.root rest ends)

pub rooted-paths-lead-home : RootedPathsLeadHome
rooted-paths-lead-home r s folder other rest path folders others is its root ends whole none =
    ap (own_path s) (rooted-below r folder rest path folders is ends whole none)
    ∙ ap (λ t. own_path s (t ++ rest)) root
    ∙ home s other rest others its ends

-- a path's place in the checkout ends a name
pub place-ends : (r : Root) (path rest : List ℕ) → place_of r path ≡ Some rest → ends_name rest ≡ true
place-ends r path rest at = first-ends r.folders (joined r.cwd path) rest (not-generated r (joined r.cwd path) rest at)

-- nothing that stays as it is equals what is below the root
pub stays : (root path other rest : List ℕ) → ends_name rest ≡ true → behind root path ≡ None → path ≡ root ++ rest → (A : Type 0) → A
stays root path other rest ends none same A = let k : None ≡ Some rest = sym none ∙ ap (behind root) same ∙ behind-below root rest ends in cc

pub paths-stay-distinct : PathsStayDistinct
paths-stay-distinct r path other none nothing same =
    elim (place_of r path) as (λ a. place_of r path ≡ a → put r.root path a ≡ rooted_path r other → (path ≡ other) ⊎ ((rest : List ℕ) × (a ≡ Some rest) × (place_of r other ≡ Some rest))) [
      | None ↦ λ _.
          elim (place_of r other) as (λ b. place_of r other ≡ b → path ≡ put r.root other b → (path ≡ other) ⊎ ((rest : List ℕ) × (None ≡ Some rest) × (b ≡ Some rest))) [
            | None ↦ λ _ k. inl k
            | Some y ↦ λ at k. stays r.root path other y (first-ends r.folders (joined r.cwd other) y (not-generated r (joined r.cwd other) y at)) none k _
          ] refl
      | Some x ↦ λ at.
          elim (place_of r other) as (λ b. place_of r other ≡ b → r.root ++ x ≡ put r.root other b → (path ≡ other) ⊎ ((rest : List ℕ) × (Some x ≡ Some rest) × (b ≡ Some rest))) [
            | None ↦ λ _ k. stays r.root other path x (first-ends r.folders (joined r.cwd path) x (not-generated r (joined r.cwd path) x at)) nothing (sym k) _
            | Some y ↦ λ _ k. inr (x, refl, ap Some (sym (append_cancel_left r.root x y k)))
          ] refl
    ] refl same

alone : (folder path rest : List ℕ) → option_or (behind folder path) None ≡ Some rest → path ≡ folder ++ rest
alone folder path rest h =
    elim (behind folder path) as (λ o. behind folder path ≡ o → option_or o None ≡ Some rest → path ≡ folder ++ rest)
    [ None ↦ λ _ k. cc | Some q ↦ λ e k. (behind-parts folder path rest (e ∙ k)).0 ] refl h

place-alone : (r : Root) (folder path rest : List ℕ) → r.folders ≡ folder ∷ [] → place r path ≡ Some rest → path ≡ folder ++ rest
place-alone r folder path rest is h = alone folder path rest (ap (λ fs. behind_first fs path) (sym is) ∙ not-generated r path rest h)

pub one-folder-is-exact : OneFolderIsExact
one-folder-is-exact r folder path other is none nothing same =
    elim (paths-stay-distinct r path other none nothing same) as (λ _. joined r.cwd path ≡ joined r.cwd other) [
      | inl equal ↦ ap (joined r.cwd) equal
      | inr (rest, here, there) ↦ place-alone r folder (joined r.cwd path) rest is here ∙ sym (place-alone r folder (joined r.cwd other) rest is there)
    ]
