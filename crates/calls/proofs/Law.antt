-- The law over every run.
use Rattle.calls.specs.Laws.{LawOverRuns}
use Rattle.calls.proofs.Acceptance.{accepted_alike}
use Rattle.calls.proofs.Counts.{ages_counted}
use Rattle.calls.proofs.Others.{isolated}
use Rattle.calls.proofs.Twins.{afresh}

pub law : LawOverRuns
law format meaning =
    record {
      isolation = isolated format meaning;
      fresh_start = afresh format meaning;
      ages = ages_counted format meaning;
      acceptance = accepted_alike format meaning;
    }
