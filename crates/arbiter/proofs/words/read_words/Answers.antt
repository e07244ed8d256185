-- The goals of `read_words` that are answered by hand.
use Rattle.std.proofs.Common.{◌≡◌, ◌∙◌, ap, subst, sym, map, string_bytes, []}
use Rattle.clap.specs.Words.{App, is_simple, subcommand_of, subcommand_rows_of}
use Rattle.clap.specs.Faults.{fault_of, is_simple_and_free}
use Rattle.clap.specs.Kinds.{HasKind}
use Rattle.arbiter.specs.CommandLine.{arbiter_app}
use Rattle.arbiter.proofs.Named.{memory_alone, named_gives}
use Rattle.arbiter.proofs.Plain.{plain_named}
use Rattle.arbiter.proofs.JobSound.{job_sound}
use Rattle.arbiter.proofs.words.read_words.Goals as goal

pub returns-in-Ok-try_get_matches_from : goal.returns-in-Ok-try_get_matches_from
returns-in-Ok-try_get_matches_from c =
    let words = map string_bytes c.args.words.now in
    let m = c.in-Ok-try_get_matches_from.matches in
    let app = c.in-Ok.ensures.app in
    let found : subcommand_rows_of m ≡ subcommand_of arbiter_app words =
    (c.in-Ok-try_get_matches_from.ensures.matches (ap is_simple app)).1
    ∙ ap (λ (a : App). subcommand_of a words) app in
    let fault : fault_of arbiter_app words ≡ [] =
    sym (ap (λ (a : App). fault_of a words) app)
    ∙ c.in-Ok-try_get_matches_from.ensures.kinds (ap is_simple_and_free app) in
    record {
      named = λ j e. (named_gives words j e).1 c.job_found.result (subcommand_rows_of m) found
          c.job_found.ensures.run c.job_found.ensures.check;
      plain = λ j e. (named_gives words j (plain_named words j e)).1 c.job_found.result
          (subcommand_rows_of m) found c.job_found.ensures.run c.job_found.ensures.check;
      ok = job_sound words c.job_found.result
          (record {
            passes = fault;
            found = subcommand_rows_of m;
            at = found;
            run = c.job_found.ensures.run;
            check = c.job_found.ensures.check;
          });
    }

pub returns-in-Err : goal.returns-in-Err
returns-in-Err c =
    let words = map string_bytes c.args.words.now in
    let app = c.in-Ok.ensures.app in
    let kinds : HasKind (fault_of arbiter_app words) c.in-Err.error =
    subst (λ (a : App). HasKind (fault_of a words) c.in-Err.error) app
    (c.in-Err.ensures.kinds (ap is_simple_and_free app)) in
    record {
      named = λ j e. c.fault.ensures.memory
          (memory_alone (fault_of arbiter_app words) c.in-Err.error (named_gives words j e).0
          kinds);
      plain = λ j e. c.fault.ensures.memory
          (memory_alone (fault_of arbiter_app words) c.in-Err.error
          (named_gives words j (plain_named words j e)).0 kinds);
      ok = tt;
    }
