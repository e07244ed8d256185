-- Words after `run` that clap takes name a job.
use Rattle.std.proofs.Common.{◌≡◌, ◌∙◌, ap, ap₂, sym, refl, List, [], ◌∷◌, Option, Some, None}
use Rattle.std.proofs.Common.{codes, false}
use Rattle.std.specs.Prelude.{option_map}
use Rattle.clap.specs.Words.{Row, Text, subcommand_of}
use Rattle.clap.specs.Walk.{nothing_held, walk, walk_from}
use Rattle.clap.specs.Faults.{fault_of, level_fault}
use Rattle.clap.specs.Faults.{settle_fault, walk_fault}
use Rattle.clap.specs.Kinds.{or_else}
use Rattle.clap.proofs.OnLiterals.{clap_on_literals}
use Rattle.arbiter.specs.CommandLine.{arbiter_app}
use Rattle.arbiter.specs.Found.{HasNumbers}
use Rattle.arbiter.specs.Words.{Uses, job_named, run_job, uses_after}
use Rattle.arbiter.specs.declared.words.Job.{Job}
use Rattle.arbiter.specs.declared.words.Job.TheVariants as job
use Rattle.arbiter.proofs.RunFaults.{at_start, faults_behind, run_reads, run_shape, top_run, walk_run}
use Rattle.arbiter.proofs.Refused.{or_none}
use Rattle.arbiter.proofs.Sound.{run_refuses, sounds}
use Rattle.arbiter.proofs.Named.{named_gives}

fault_below : (rest : List Text) → fault_of arbiter_app (codes "run" ∷ rest)
    ≡ or_else (level_fault run_shape [] nothing_held rest false []) []
unfolding clap_on_literals
fault_below rest =
    ap₂ faults_behind (walk_run rest) (top_run rest)

run_named : (rest : List Text) → fault_of arbiter_app (codes "run" ∷ rest) ≡ []
    → (g : Uses) × (uses_after [] None rest ≡ Some g)
run_named rest e =
    let level = (or_none (level_fault run_shape [] nothing_held rest false []) []
    (sym (fault_below rest) ∙ e)).0 in
    let p = or_none (walk_fault run_shape [] (walk_from nothing_held) rest) _ level in
    let q = or_none
    (settle_fault run_shape.rules false (walk run_shape.rules [] nothing_held rest).held) _
    p.1 in
    (sounds run_shape run_reads run_refuses rest None nothing_held [] refl p.0 q.0).1 at_start

-- the job found for words that clap takes is the one that they name
pub run_sound : (rest : List Text) (k : Job) (found : Option (Text × List Row))
    → fault_of arbiter_app (codes "run" ∷ rest) ≡ []
    → found ≡ subcommand_of arbiter_app (codes "run" ∷ rest)
    → ((rows : List Row) (uses : Uses) → found ≡ Some (codes "run", rows) → HasNumbers rows uses
    → k ≡ run_job uses)
    → ((rows : List Row) → found ≡ Some (codes "check", rows) → k ≡ job.Check)
    → job_named (codes "run" ∷ rest) ≡ Some k
run_sound rest k found e at run check =
    let g = run_named rest e in
    let named : job_named (codes "run" ∷ rest) ≡ Some (run_job g.0) = ap (option_map run_job) g.1 in
    named ∙ ap Some (sym ((named_gives (codes "run" ∷ rest) (run_job g.0) named).1 k found at run
    check))
