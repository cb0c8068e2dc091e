-- A constant that was added is taken back.
use Rattle.std.proofs.Common.{◌≡◌, ◌-◌, ◌<◌, List, [], ◌∷◌, ◌++◌, length, length-append, take, ap}
use Rattle.std.proofs.Common.{◌∙◌, arith}
use Rattle.esc_trail.proofs.Ends.{take-append_last}
use Rattle.sharing_cases.specs.ConstantTerms.{constants_back}
use Rattle.sharing_cases.specs.declared.constants.Constant.{Constant}
use Rattle.sharing_cases.specs.declared.constants.ConstantRec.TheVariants.{Added}
use Rattle.sharing_cases.specs.declared.constants.Constants.{Constants}

module _ (v : Constants) (c : Constant) (l : List Constant) (is : l ≡ v.list ++ c ∷ []) where
  abbrev pub pushed : Constants
  pushed = record v { list = l }

  pub push_can : 0 < length l
  push_can = omega (arith, ap length is, length-append v.list (c ∷ []))

  pub push_undone : constants_back pushed Added ≡ v
  push_undone = ap (λ xs. record v { list = take (length xs - 1) xs }) is
      ∙ ap (λ xs. record v { list = xs }) (take-append_last v.list c)
