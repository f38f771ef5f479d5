-- The texts of a small command, worked out by hand, and the edges of a real plan.
use Rattle.std.specs.Prelude.{◌≡◌, ℕ, List, [], ◌∷◌, map, codes, Some, None, Ok, Err}
use Rattle.compilers.specs.declared.command.Cacheable.TheVariants.{Yes}
use Rattle.texts.specs.Posix.{Word, Operator}
use Rattle.compilers.specs.declared.plans.plan.NvccGeneratedSubcommand.{NvccGeneratedSubcommand}
use Rattle.compilers.specs.Listed.{listed}
use Rattle.command_files.specs.PlanNeeds.{fatbin_plan}
use Rattle.plan_texts.specs.declared.format.Format.TheVariants.{Shell, Ninja}
use Rattle.plan_texts.specs.declared.refusal.Refusal.TheVariants.{Unheld, VariableName}
use Rattle.plan_texts.specs.Judging.{judged_command, judged_commands}
use Rattle.plan_texts.specs.Script.{command_line}
use Rattle.plan_texts.specs.Graph.{edge}
use Rattle.plan_texts.specs.ReadBack.{shell_tokens}
use Rattle.plan_texts.specs.ReadGraph.{Edge, edges_of_plan}

-- a cacheable command with one variable
abbrev pub cicc_with : List ℕ → List ℕ → NvccGeneratedSubcommand
cicc_with name word = record { exe = codes "/b/cicc"; args = word ∷ []; cwd = codes "/t"; env_vars = (name, codes "v w") ∷ []; cacheable = Yes }

abbrev pub cicc : NvccGeneratedSubcommand
cicc = cicc_with (codes "K") (codes "a$b")

abbrev pub LineOfCicc : Type 0
LineOfCicc = command_line cicc ≡ codes "( cd /t && env 'K=v w' /b/cicc 'a$b' )\n"

-- without the quotes, a shell would end the command at a `;`, and act on a `$`
abbrev pub BareCharacters : Type 0
BareCharacters =
    (shell_tokens (codes "( cd /t && env /b/cicc a;b )")
    ≡ Some (Operator (codes "(") ∷ Word (codes "cd") ∷ Word (codes "/t") ∷ Operator (codes "&&") ∷ Word (codes "env") ∷ Word (codes "/b/cicc")
    ∷ Word (codes "a") ∷ Operator (codes ";") ∷ Word (codes "b") ∷ Operator (codes ")") ∷ []))
    × (shell_tokens (codes "( cd /t && env /b/cicc a$b )") ≡ None)

-- a name that begins with `-`, and a newline, which a shell script can represent and a Ninja file can't
abbrev pub DashRefused : Type 0
DashRefused = judged_command Shell (cicc_with (codes "-K") []) ≡ Err VariableName

abbrev pub NewlineHeld : Type 0
NewlineHeld = judged_command Shell (cicc_with (codes "K") (codes "a\nb")) ≡ Ok tt

abbrev pub NewlineRefused : Type 0
NewlineRefused = judged_commands Ninja (listed ((cicc_with (codes "K") (codes "a\nb") ∷ []) ∷ [])) ≡ Err Unheld

abbrev pub EdgeOfCicc : Type 0
EdgeOfCicc =
    edge (codes "/t") (codes " ${tmp}/zigrunk.0.1") (record { group = 1; place = 0; command = cicc })
    ≡ codes "build ${tmp}/zigrunk.1.0: run ${tmp}/zigrunk.0.1\n  line = ( cd /t && env 'K=v w' $${ZIGRUNK_RUNNER-} $${ZIGRUNK_LAUNCHER-} /b/cicc 'a$$b' ) && touch /t/zigrunk.1.0\n  description = cicc\n"

-- the edges of a real fatbin: its second cicc needs the preprocessed source, and the first cicc, which writes the module id
abbrev pub ends_of : Edge → List ℕ × List (List ℕ)
ends_of e = (e.output, e.needs)

abbrev pub EdgesOfFatbin : Type 0
EdgesOfFatbin =
    map ends_of (edges_of_plan (codes "/t") fatbin_plan)
    ≡ (codes "/t/zigrunk.1.0", [])
    ∷ (codes "/t/zigrunk.1.1", codes "/t/zigrunk.1.0" ∷ [])
    ∷ (codes "/t/zigrunk.1.2", codes "/t/zigrunk.1.1" ∷ [])
    ∷ (codes "/t/zigrunk.2.0", [])
    ∷ (codes "/t/zigrunk.2.1", codes "/t/zigrunk.1.1" ∷ codes "/t/zigrunk.2.0" ∷ [])
    ∷ (codes "/t/zigrunk.2.2", codes "/t/zigrunk.2.1" ∷ [])
    ∷ (
      codes "/t/zigrunk.3.0",
      codes "/t/zigrunk.1.0" ∷ codes "/t/zigrunk.1.1" ∷ codes "/t/zigrunk.1.2" ∷ codes "/t/zigrunk.2.0" ∷ codes "/t/zigrunk.2.1" ∷ codes "/t/zigrunk.2.2" ∷ [],
    )
    ∷ []
