-- What gcc writes under the root's maps is the rooted path.
use Rattle.std.proofs.Common.{◌≡◌, ℕ, Bool, true, false, not, ◌&&◌, ◌||◌, cond, bytes_eq, eqb, eqb-true, List, [], ◌∷◌, ◌++◌, Option, Some, None, refl, ap, sym, ◌∙◌, subst, codes, append_assoc, append-nil, option_map, option_and_then}
use Rattle.std.specs.List.{flat_map}
use Rattle.std.specs.Option.{is_some, option_eq}
use Rattle.std.proofs.lemmas.Bool.{false≢true, and_parts, or_parts}
use Rattle.std.proofs.lemmas.Bool.Decides.{Decides-eqb}
use Rattle.std.proofs.lemmas.Slice.Eq.{bytes_eq-Decides}
use Rattle.texts.specs.Lists.{latest, rest_after}
use Rattle.texts.specs.Path.{lacks}
use Rattle.texts.proofs.EqualityLemmas.{options}
use Rattle.texts.proofs.RestLemmas.{rest_after-append}
use Rattle.compilers.specs.Programs.{program_at}
use Rattle.compilers.specs.declared.plans.program.Program.TheVariants as programs
use Rattle.compilers.specs.declared.plans.plan.NvccGeneratedSubcommand.{NvccGeneratedSubcommand}
use Rattle.command_files.specs.Files.{is_among}
use Rattle.rooted_commands.specs.Paths.{place_of, put, rooted_path}
use Rattle.rooted_commands.specs.Commands.{file_map, folder_maps, file_maps, mapped_host, rooted_by, rooted_command, writes_names}
use Rattle.rooted_commands.specs.WrittenNames.{HostsWriteGeneratedPaths, HostsWriteRootedPaths, can_be_told, cut_at_equals, has_maps, if_told, is_clear, is_map, last_new_name, last_told, told_by, name_or, new_name, with_beginning, with_front, written_name}
use Rattle.rooted_commands.specs.declared.paths.Root.{Root}
use Rattle.rooted_commands.proofs.PathLemmas.{rest_after-whole}

-- a map is cut where its new beginning begins
no-equals : (b : Bool) → not b ≡ true → b ≡ false
no-equals true e = absurd (false≢true e)
no-equals false e = refl

cut-none : (text : List ℕ) → lacks 61 text ≡ true → cut_at_equals text ≡ None
cut-none [] h = refl
cut-none (c ∷ cs) h =
    let parts = and_parts (not (eqb c 61)) (lacks 61 cs) h in
    let cut : Bool → Option (List ℕ × List ℕ) = λ b. cond b (Some ([], cs)) None in
    ap (with_front c cs) (cut-none cs parts.1) ∙ ap cut (no-equals (eqb c 61) parts.0)

cut-at : (front back : List ℕ) → lacks 61 back ≡ true → cut_at_equals (front ++ 61 ∷ back) ≡ Some (front, back)
cut-at [] back h = ap (with_front 61 back) (cut-none back h)
cut-at (c ∷ cs) back h = ap (with_front c (cs ++ 61 ∷ back)) (cut-at cs back h)

both-lack : (front back : List ℕ) → lacks 61 front ≡ true → lacks 61 back ≡ true → lacks 61 (front ++ back) ≡ true
both-lack [] back h k = k
both-lack (c ∷ cs) back h k =
    let parts = and_parts (not (eqb c 61)) (lacks 61 cs) h in ap (λ b. b && lacks 61 (cs ++ back)) parts.0 ∙ both-lack cs back parts.1 k

new-of-map : (old new end name : List ℕ) → lacks 61 (new ++ end) ≡ true → new_name name (file_map old new end) ≡ option_map (λ rest. (new ++ end) ++ rest) (rest_after (old ++ end) name)
new-of-map old new end name h =
    ap (λ o. option_and_then (with_beginning name) (option_and_then cut_at_equals o)) (rest_after-append (codes "-ffile-prefix-map=") (old ++ (end ++ (codes "=" ++ (new ++ end)))))
    ∙ ap (λ t. option_and_then (with_beginning name) (cut_at_equals t)) (sym (append_assoc old end (61 ∷ (new ++ end))))
    ∙ ap (option_and_then (with_beginning name)) (cut-at (old ++ end) (new ++ end) h)

-- what doesn't begin a name doesn't with more behind it
longer-none : (p e s : List ℕ) → rest_after p s ≡ None → rest_after (p ++ e) s ≡ None
longer-none [] e s h = cc
longer-none (c ∷ cs) e [] h = refl
longer-none (c ∷ cs) e (d ∷ ds) h =
    elim (eqb c d) as (λ b. cond b (rest_after cs ds) None ≡ None → cond b (rest_after (cs ++ e) ds) None ≡ None) [ true ↦ λ k. longer-none cs e ds k | false ↦ λ _. refl ] h

-- a text in front of both doesn't count
rest-past : (p e s : List ℕ) → rest_after (p ++ e) (p ++ s) ≡ rest_after e s
rest-past [] e s = refl
rest-past (c ∷ cs) e s = let same : eqb c c ≡ true = (Decides-eqb c c).1 refl in rw same (rest-past cs e s)

-- the last of two lists of words
latest-none : (o : Option (List ℕ)) → latest None o ≡ o
latest-none None = refl
latest-none (Some x) = refl

latest-assoc : (a b o : Option (List ℕ)) → latest (latest a b) o ≡ latest a (latest b o)
latest-assoc a b None = refl
latest-assoc a b (Some x) = refl

last-append : (name : List ℕ) (xs ys : List (List ℕ)) → last_new_name name (xs ++ ys) ≡ latest (last_new_name name xs) (last_new_name name ys)
last-append name [] ys = sym (latest-none (last_new_name name ys))
last-append name (x ∷ xs) ys =
    ap (latest (new_name name x)) (last-append name xs ys) ∙ sym (latest-assoc (new_name name x) (last_new_name name xs) (last_new_name name ys))

-- two bytes that differ, the other way round
other-way : (c d : ℕ) → eqb c d ≡ false → eqb d c ≡ false
other-way c d e =
    elim (eqb d c) as (λ b. eqb d c ≡ b → b ≡ false) [
      | true ↦ λ k. let same : d ≡ c = eqb-true d c k in absurd (false≢true (sym e ∙ (Decides-eqb c d).1 (sym same)))
      | false ↦ λ _. refl
    ] refl

-- the words for one folder: nothing fits a name that it doesn't begin
module _ (r : Root) (top : Bool) (h : lacks 61 r.root ≡ true) (g : List ℕ) where
  below-map : (name : List ℕ) → new_name name (file_map g r.root (codes "/")) ≡ option_map (λ rest. (r.root ++ 47 ∷ []) ++ rest) (rest_after (g ++ 47 ∷ []) name)
  below-map name = new-of-map g r.root (codes "/") name (both-lack r.root (codes "/") h refl)

  top-map : (name : List ℕ) → new_name name (file_map g r.root []) ≡ option_map (λ rest. r.root ++ rest) (rest_after g name)
  top-map name =
      new-of-map g r.root [] name (both-lack r.root [] h refl)
      ∙ ap (λ t. option_map (λ rest. t ++ rest) (rest_after (g ++ []) name)) (append-nil r.root)
      ∙ ap (λ t. option_map (λ rest. r.root ++ rest) (rest_after t name)) (append-nil g)

  folder-none : (name : List ℕ) → rest_after g name ≡ None → last_new_name name (folder_maps r top g) ≡ None
  folder-none name none =
      let here : new_name name (file_map g r.root (codes "/")) ≡ None = below-map name ∙ ap (option_map (λ rest. (r.root ++ 47 ∷ []) ++ rest)) (longer-none g (47 ∷ []) name none) in
      let there : new_name name (file_map g r.root []) ≡ None = top-map name ∙ ap (option_map (λ rest. r.root ++ rest)) none in
      elim top as (λ b. last_new_name name (folder_maps r b g) ≡ None) [
        | true ↦ ap (latest (new_name name (file_map g r.root (codes "/")))) there ∙ here
        | false ↦ here
      ]

  -- what is behind it, as its maps tell it
  abbrev below-rest : List ℕ → List ℕ
  below-rest rest = (r.root ++ 47 ∷ []) ++ rest

  abbrev Slash : List ℕ → Type 0
  Slash q = option_map below-rest (rest_after (47 ∷ []) q) ≡ option_map (λ t. r.root ++ t) (if_told false q)

  slash : (q : List ℕ) → Slash q
  slash [] = refl
  slash (c ∷ cs) =
      let here : Bool → Option (List ℕ) = λ b. option_map below-rest (cond b (Some cs) None) in
      let there : Bool → Option (List ℕ) = λ b. option_map (λ t. r.root ++ t) (cond b (Some (c ∷ cs)) None) in
      elim (eqb c 47) as (λ b. eqb c 47 ≡ b → Slash (c ∷ cs)) [
        | true ↦ λ e. subst (λ d. Slash (d ∷ cs)) (sym (eqb-true c 47 e)) (ap Some (append_assoc r.root (47 ∷ []) cs))
        | false ↦ λ e. ap here (other-way c 47 e) ∙ sym (ap there e)
      ] refl

  folder-rest : (q : List ℕ) → last_new_name (g ++ q) (folder_maps r top g) ≡ option_map (λ t. r.root ++ t) (if_told top q)
  folder-rest q =
      let here : new_name (g ++ q) (file_map g r.root (codes "/")) ≡ option_map (λ t. r.root ++ t) (if_told false q) =
      below-map (g ++ q) ∙ ap (option_map below-rest) (rest-past g (47 ∷ []) q) ∙ slash q in
      let there : new_name (g ++ q) (file_map g r.root []) ≡ Some (r.root ++ q) = top-map (g ++ q) ∙ ap (option_map (λ rest. r.root ++ rest)) (rest_after-append g q) in
      elim top as (λ b. last_new_name (g ++ q) (folder_maps r b g) ≡ option_map (λ t. r.root ++ t) (if_told b q)) [
        | true ↦ ap (latest (new_name (g ++ q) (file_map g r.root (codes "/")))) there
        | false ↦ here
      ]

  folder-tells : (name : List ℕ) → last_new_name name (folder_maps r top g) ≡ option_map (λ t. r.root ++ t) (told_by top name g)
  folder-tells name =
      elim (rest_after g name)
      as (λ o. rest_after g name ≡ o → last_new_name name (folder_maps r top g) ≡ option_map (λ t. r.root ++ t) (option_and_then (if_told top) o)) [
        | None ↦ λ e. folder-none name e
        | Some q ↦ λ e. ap (λ t. last_new_name t (folder_maps r top g)) (rest_after-whole g name q e) ∙ folder-rest q
      ] refl

-- all folders
map-latest : (f : List ℕ → List ℕ) (a b : Option (List ℕ)) → option_map f (latest a b) ≡ latest (option_map f a) (option_map f b)
map-latest f a None = refl
map-latest f a (Some x) = refl

folders-tell : (r : Root) (top : Bool) (lack : lacks 61 r.root ≡ true) (name : List ℕ) (fs : List (List ℕ))
    → last_new_name name (flat_map (folder_maps r top) fs) ≡ option_map (λ t. r.root ++ t) (last_told top name fs)
folders-tell r top lack name [] = refl
folders-tell r top lack name (g ∷ fs) =
    last-append name (folder_maps r top g) (flat_map (folder_maps r top) fs)
    ∙ (λ i. latest (folder-tells r top lack g name i) (folders-tell r top lack name fs i))
    ∙ sym (map-latest (λ t. r.root ++ t) (told_by top name g) (last_told top name fs))

-- nor do words that are no maps change it
no-map : (name word : List ℕ) → is_map word ≡ false → new_name name word ≡ None
no-map name word h =
    let none : is_some (rest_after (codes "-ffile-prefix-map=") word) ≡ false =
    (or_parts (is_some (rest_after (codes "-ffile-prefix-map=") word)) (is_some (rest_after (codes "-fdebug-prefix-map=") word) || is_some (rest_after (codes "-fmacro-prefix-map=") word)) h).0 in
    elim (rest_after (codes "-ffile-prefix-map=") word) as (λ o. is_some o ≡ false → option_and_then (with_beginning name) (option_and_then cut_at_equals o) ≡ None)
    [ None ↦ λ _. refl | Some t ↦ λ k. absurd (false≢true (sym k)) ] none

no-maps : (name : List ℕ) (ws : List (List ℕ)) → has_maps ws ≡ false → last_new_name name ws ≡ None
no-maps name [] h = refl
no-maps name (w ∷ ws) h =
    let parts = or_parts (is_map w) (has_maps ws) h in
    ap (λ o. latest o (last_new_name name ws)) (no-map name w parts.0) ∙ latest-none (last_new_name name ws) ∙ no-maps name ws parts.1

-- so the words for the folders count
none-of : (o : Option (List ℕ)) → not (is_some o) ≡ true → o ≡ None
none-of None h = refl
none-of (Some x) h = absurd (false≢true h)

folders-count : (r : Root) (cwd name : List ℕ) (ws : List (List ℕ)) → rest_after r.tmp name ≡ None → has_maps ws ≡ false
    → last_new_name name (file_maps r cwd ++ ws) ≡ last_new_name name (flat_map (folder_maps r (is_among r.folders cwd)) r.folders)
folders-count r cwd name ws none own =
    let maps = flat_map (folder_maps r (is_among r.folders cwd)) r.folders in
    let tmp : new_name name (file_map r.tmp (codes "/tmp") []) ≡ None =
    new-of-map r.tmp (codes "/tmp") [] name refl ∙ ap (option_map (λ rest. (codes "/tmp" ++ []) ++ rest)) (ap (λ t. rest_after t name) (append-nil r.tmp) ∙ none) in
    last-append name (maps ++ file_map r.tmp (codes "/tmp") [] ∷ []) ws
    ∙ ap (latest (last_new_name name (maps ++ file_map r.tmp (codes "/tmp") [] ∷ []))) (no-maps name ws own)
    ∙ last-append name maps (file_map r.tmp (codes "/tmp") [] ∷ [])
    ∙ ap (latest (last_new_name name maps)) tmp

-- a clear path
put-name : (root path : List ℕ) (place : Option (List ℕ)) → name_or path (option_map (λ t. root ++ t) place) ≡ put root path place
put-name root path None = refl
put-name root path (Some rest) = refl

rooted-at : (r : Root) (cwd path : List ℕ) (ws : List (List ℕ)) → has_maps ws ≡ false → can_be_told r ≡ true → is_clear r cwd path ≡ true
    → name_or path (last_new_name path (file_maps r cwd ++ ws)) ≡ rooted_path r path
rooted-at r cwd path ws own can clear =
    let told = last_told (is_among r.folders cwd) path r.folders in
    let parts = and_parts (not (is_some (rest_after r.tmp path))) (option_eq bytes_eq told (place_of r path)) clear in
    let none : rest_after r.tmp path ≡ None = none-of (rest_after r.tmp path) parts.0 in
    let same : told ≡ place_of r path = (options bytes_eq bytes_eq-Decides told (place_of r path)).0 parts.1 in
    ap (name_or path)
    (folders-count r cwd path ws none own
    ∙ folders-tell r (is_among r.folders cwd) can path r.folders
    ∙ ap (option_map (λ t. r.root ++ t)) same)
    ∙ put-name r.root path (place_of r path)

-- a host compiler's command that writes names
mapped : (r : Root) (c : NvccGeneratedSubcommand) → program_at c.exe ≡ programs.Other → writes_names c.args ≡ true → rooted_command r c ≡ mapped_host r c
mapped r c is writes = ap (λ p. rooted_by r p c) is ∙ ap (λ b. cond b (mapped_host r c) c) writes

pub hosts-write-rooted-paths : HostsWriteRootedPaths
hosts-write-rooted-paths r c path is writes own can clear = ap (λ d. written_name d.args path) (mapped r c is writes) ∙ rooted-at r c.cwd path c.args own can clear

-- the map of generated files is the last
generated-at : (r : Root) (cwd rest : List ℕ) (ws : List (List ℕ)) → has_maps ws ≡ false → last_new_name (r.tmp ++ rest) (file_maps r cwd ++ ws) ≡ Some (codes "/tmp" ++ rest)
generated-at r cwd rest ws own =
    let name = r.tmp ++ rest in
    let maps = flat_map (folder_maps r (is_among r.folders cwd)) r.folders in
    let tmp : new_name name (file_map r.tmp (codes "/tmp") []) ≡ Some (codes "/tmp" ++ rest) =
    new-of-map r.tmp (codes "/tmp") [] name refl
    ∙ ap (option_map (λ t. (codes "/tmp" ++ []) ++ t)) (ap (λ t. rest_after t name) (append-nil r.tmp) ∙ rest_after-append r.tmp rest) in
    last-append name (maps ++ file_map r.tmp (codes "/tmp") [] ∷ []) ws
    ∙ ap (latest (last_new_name name (maps ++ file_map r.tmp (codes "/tmp") [] ∷ []))) (no-maps name ws own)
    ∙ last-append name maps (file_map r.tmp (codes "/tmp") [] ∷ [])
    ∙ ap (latest (last_new_name name maps)) tmp

pub hosts-write-generated-paths : HostsWriteGeneratedPaths
hosts-write-generated-paths r c rest is writes own =
    ap (λ d. written_name d.args (r.tmp ++ rest)) (mapped r c is writes) ∙ ap (name_or (r.tmp ++ rest)) (generated-at r c.cwd rest c.args own)
