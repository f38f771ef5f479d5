-- The JSON of a small command, worked out by hand.
use Rattle.std.specs.Prelude.{◌≡◌, [], ◌∷◌, codes}
use Rattle.compilers.specs.declared.command.Cacheable.TheVariants.{Yes}
use Rattle.compilers.specs.declared.plans.plan.NvccGeneratedSubcommand.{NvccGeneratedSubcommand}
use Rattle.plan_json.specs.Json.{command_at}
use Rattle.serde_json.specs.Written.{compact_text}

abbrev pub cicc : NvccGeneratedSubcommand
cicc = record { exe = codes "/b/cicc"; args = codes "a$b" ∷ []; cwd = codes "/t"; env_vars = (codes "K", codes "v w") ∷ []; cacheable = Yes }

-- It is in the second group. cicc needs more words than that to be read, so its files are unknown.
abbrev pub JsonOfCicc : Type 0
JsonOfCicc =
    compact_text (command_at (record { origins = record { line = 6; run = 1 } ∷ []; needs = (1 ∷ 2 ∷ []) ∷ [] }) 0 (record { group = 1; place = 0; command = cicc }))
    ≡ codes "{\"args\":[\"a$b\"],\"cacheable\":true,\"complete\":false,\"cwd\":\"/t\",\"env\":[[\"K\",\"v w\"]],\"exe\":\"/b/cicc\",\"group\":1,\"id\":0,\"line\":7,\"may_write\":[],\"needs\":[1,2],\"reads\":[],\"run\":1,\"writes\":[]}"
