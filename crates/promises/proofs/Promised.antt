-- The one term of all that is promised. Assumes nothing.
use mathlib.Core.Option.{none}
use mathlib.Core.Path.{◌≡◌}
use Rattle.setup.specs.Setup.{setup_number}
use Rattle.setup.specs.declared.Setup.{Setup}
use Rattle.setup.proofs.Rules.{number_accepted}
use Rattle.rehearsal.proofs.Nearest.{nearest_fits, nearest_zero}
use Rattle.rehearsal.proofs.SentAgain.{sent_again}
use Rattle.rehearsal.proofs.WorkedLines.{worked_line_lem}
use Rattle.feeding.proofs.Demands.{demand2, demand3, doubtful_totals, every_call}
use Rattle.promises.proofs.LinesInTurn.{lines_in_turn}
use Rattle.promises.specs.Promised.{OfSetup, Promised}
use Rattle.promises.proofs.MadeHere.{made_here}
use Rattle.promises.proofs.Demand1.{demand1}
use Rattle.promises.proofs.BuildingBlocks.{building_blocks}
use Rattle.promises.proofs.PaperRules.{paper_rules}

of_setup : (u : Setup) → setup_number u ≡ none → OfSetup u
of_setup u e =
    let ok = number_accepted u e in
    record {
      demand2 = demand2 u ok;
      demand3 = demand3 u ok;
      doubtful_totals = doubtful_totals u ok;
      lines = lines_in_turn u ok;
      made_here = made_here u ok;
    }

pub promised : Promised
promised =
    record {
      demand1 = demand1;
      every_call = every_call;
      each_setup = of_setup;
      rehearsals = record { sent_again = sent_again; worked = worked_line_lem; nearest_fits = nearest_fits; nearest_zero = nearest_zero };
      blocks = building_blocks;
      rules = paper_rules;
    }
