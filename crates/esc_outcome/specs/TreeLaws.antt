-- What holds of splits as a tree.
use Rattle.std.specs.Prelude.{◌≡◌, ℕ, ◌<◌, ◌^◌, Bool, true, false, List, [], ◌∷◌, ◌++◌, length}
use Rattle.std.specs.Prelude.{Some, None, slice_get}
use Rattle.std.specs.List.{All, sum_by}
use Rattle.esc_term.specs.declared.formula.Formula.{Formula}
use Rattle.esc_term.specs.Refuted.{Refuted}
use Rattle.esc_clause.specs.Occurrences.{size_of}
use Rattle.esc_outcome.specs.Tree.{ComesInTurn, IsFree, IsOccurrence, IsRefutedAt, IsSideAmong}
use Rattle.esc_outcome.specs.Tree.{IsTree, IsUndecidedAt, NamesOnce, Side, SplitTree}
use Rattle.esc_outcome.specs.Tree.{path_formulas, path_of}
use Rattle.esc_outcome.specs.declared.branch.Split.{Split}

-- ---- paths

-- on the way to a side of a split stands what is decided on the way to the split, and this side
abbrev pub PathBelow : Type 0
PathBelow = (splits : List Split) (k : ℕ) (split : Split) (holds : Bool) → IsTree splits
    → slice_get splits k ≡ Some split
    → path_of splits (Some (k, holds))
    ≡ path_of splits split.under ++ record { at = split.at; holds = holds } ∷ []

-- splits behind others change no path of theirs
abbrev pub PathsStay : Type 0
PathsStay = (splits more : List Split) (side : Side) → IsSideAmong (length splits) side
    → path_of (splits ++ more) side ≡ path_of splits side

-- nor do formulas behind others change what the decisions say
abbrev pub DecidedStays : Type 0
DecidedStays = (fs more : List Formula) (splits : List Split) (side : Side)
    → All (λ split. IsOccurrence fs split.at) splits
    → path_formulas (fs ++ more) splits side ≡ path_formulas fs splits side

-- ---- refuted sides

-- what is refuted stays so with more formulas
abbrev pub RefutedByMore : Type 0
RefutedByMore = (fs more : List Formula) (splits : List Split) (side : Side)
    → All (λ split. IsOccurrence fs split.at) splits
    → IsRefutedAt fs splits side → IsRefutedAt (fs ++ more) splits side

-- and with splits behind the others
abbrev pub RefutedStays : Type 0
RefutedStays = (fs : List Formula) (splits more : List Split) (side : Side)
    → IsSideAmong (length splits) side
    → IsRefutedAt fs splits side → IsRefutedAt fs (splits ++ more) side

-- where both sides of a split are refuted, so is where it stands
abbrev pub SidesClose : Type 0
SidesClose = (fs : List Formula) (splits : List Split) (k : ℕ) (split : Split) → IsTree splits
    → slice_get splits k ≡ Some split → IsOccurrence fs split.at
    → IsRefutedAt fs splits (Some (k, true)) → IsRefutedAt fs splits (Some (k, false))
    → IsRefutedAt fs splits split.under

-- where the root is refuted, the formulas are
abbrev pub RootCloses : Type 0
RootCloses = (fs : List Formula) (splits : List Split) → IsRefutedAt fs splits None → Refuted fs

-- ---- larger trees

-- a split may come where none stands and its occurrence is not decided
abbrev pub TreeGrows : Type 0
TreeGrows = (fs : List Formula) (splits : List Split) (split : Split)
    → SplitTree (IsRefutedAt fs splits) fs splits
    → IsSideAmong (length splits) split.under → ComesInTurn (IsRefutedAt fs splits) split.under
    → IsFree splits split.under → IsOccurrence fs split.at
    → IsUndecidedAt splits split.under split.at
    → SplitTree (IsRefutedAt fs (splits ++ split ∷ [])) fs (splits ++ split ∷ [])

-- with more formulas it is a tree of theirs
abbrev pub TreeStays : Type 0
TreeStays = (fs more : List Formula) (splits : List Split)
    → SplitTree (IsRefutedAt fs splits) fs splits
    → SplitTree (IsRefutedAt (fs ++ more) splits) (fs ++ more) splits

-- the sides of a new split are free
abbrev pub NewSidesAreFree : Type 0
NewSidesAreFree = (splits : List Split) (split : Split) (holds : Bool) → IsTree splits
    → IsSideAmong (length splits) split.under
    → IsFree (splits ++ split ∷ []) (Some (length splits, holds))

-- ---- how large a tree can be

-- how many occurrences the formulas have
abbrev pub occurrences_in : List Formula → ℕ
occurrences_in = sum_by size_of

-- a tree that names each occurrence at most once on a path is small
abbrev pub TreeIsSmall : Type 0
TreeIsSmall = (fs : List Formula) (splits : List Split) → IsTree splits → NamesOnce splits
    → All (λ split. IsOccurrence fs split.at) splits → length splits < 2 ^ occurrences_in fs
