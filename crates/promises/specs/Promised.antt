-- All that is promised of the receiver beyond the equations of its public calls, in one type: `Promised`. Its one term is `promised`, in
-- proofs/Promised.antt. The rules that it speaks of are those of 01 and 02, each in the `specs/` of its crate; the equation in each call's contract ties the code to
-- them. What the program does with its input and output no contract can say.
use Rattle.std.proofs.Math.Option.{none}
use Rattle.std.specs.Prelude.{◌≡◌}
use Rattle.setup.specs.Setup.{setup_number}
use Rattle.setup.specs.declared.Setup.{Setup}
use Rattle.feeding.specs.Promises.{EveryCall, Demand2, Demand3, DoubtfulTotals}
use Rattle.promises.specs.InTurn.{LinesInTurn}
use Rattle.promises.specs.Demand1.{Demand1}
use Rattle.promises.specs.BuildingBlocks.{BuildingBlocks}
use Rattle.promises.specs.PaperRules.{PaperRules}
use Rattle.promises.specs.MadeHere.{MadeHere}
use Rattle.promises.specs.Rehearsals.{Rehearsals}

-- of a setup: the datagrams of every stream (demand 2), the totals (demand 3), which of them may have slipped (02, 2.5), the lines of pieces received in
-- turn, which are those of the datagrams of demand 3, and datagrams made here (02, 2.1)
pub record OfSetup (u : Setup) : Type 0 where
  pub demand2 : Demand2 u
  pub demand3 : Demand3 u
  pub doubtful_totals : DoubtfulTotals u
  pub lines : LinesInTurn u
  pub made_here : MadeHere u

pub record Promised : Type 0 where
  -- lent memory, and the numbers of refusals
  pub demand1 : Demand1
  -- one call of feeding, on every session
  pub every_call : EveryCall
  -- every list of pieces, of every setup that is not refused
  pub each_setup : (u : Setup) → setup_number u ≡ none → OfSetup u
  -- the lines of a rehearsal
  pub rehearsals : Rehearsals
  -- the enums that the calls below these answer
  pub blocks : BuildingBlocks
  -- what the rules say that all of this is stated by
  pub rules : PaperRules
