-- What a theory of constants keeps where records are taken back, and which stops it may answer.
use Rattle.std.proofs.Common.{◌≡◌, List, ap}
use Rattle.std.specs.List.{All, Contains}
use Rattle.std.proofs.lemmas.List.Elements.{All-contains, All-take}
use Rattle.esc_term.specs.declared.term.Term.{Term}
use Rattle.esc_simplex.specs.declared.stop.Stop.{Stop}
use Rattle.esc_simplex.specs.declared.stop.Stop.TheVariants as stop
use Rattle.sharing_cases.specs.ConstantTerms.{AreWorth, CanTake, IsRefused, IsWorth}
use Rattle.sharing_cases.specs.ConstantTerms.{constants_back, numbers_in}
use Rattle.sharing_cases.specs.declared.constants.Constant.{Constant}
use Rattle.sharing_cases.specs.declared.constants.ConstantRec.{ConstantRec}
use Rattle.sharing_cases.specs.declared.constants.ConstantRec.TheVariants.{Added}
use Rattle.sharing_cases.specs.declared.constants.Constants.{Constants}

pub numbers_alike : (v w : Constants) → v ≡ w → numbers_in v ≡ numbers_in w
numbers_alike v w e = ap numbers_in e

pub back_worth : (v : Constants) (rec : ConstantRec) → CanTake v rec → AreWorth v
    → AreWorth (constants_back v rec)
back_worth v Added can h = All-take (λ (c : Constant). IsWorth c.term c.value.num) _ v.list h

pub refused_by_more : (v : Constants) (terms more numbers wider : List Term) (s : Stop)
    → All (Contains more) terms → All (Contains wider) numbers → IsRefused terms s
    → IsRefused more s
refused_by_more v terms more numbers wider (stop.Form t) among rest h =
    (All-contains (Contains more) terms t among h.0, h.1)
refused_by_more v terms more numbers wider (stop.Spill j) among rest h = h
refused_by_more v terms more numbers wider (stop.Pivots j) among rest h = h
refused_by_more v terms more numbers wider stop.Memory among rest h = h
