-- How refuted sides lead up to the open splits.
use Rattle.std.proofs.Common.{ℕ, ◌<◌, true, List, [], ◌∷◌, ◌++◌, Some}
use Rattle.std.specs.List.{All}
use Rattle.std.proofs.lemmas.List.Elements.{All-head, All-tail}
use Rattle.esc_outcome.specs.Tree.{IsSideAmong, Side}
use Rattle.esc_search.specs.SearchInside.{Climbs}
use Rattle.esc_search.specs.declared.open_split.OpenSplit.{OpenSplit}

module _ (done : Side → Type 0) where
  -- a split where the branch is, which goes to its first side
  pub climbs_push : (target : Side) (os : List OpenSplit) (o : OpenSplit)
      → Climbs done target os o.split.under
      → Climbs done target (os ++ o ∷ []) (Some (o.number, true))
  climbs_push target [] o h = (h, λ d. d)
  climbs_push target (p ∷ os) o h = (h.0, climbs_push (Some (p.number, true)) os o h.1)

  -- where the branch is done, so is the first side of the newest open split
  pub climbs_first : (target : Side) (os : List OpenSplit) (o : OpenSplit) (under : Side)
      → Climbs done target (os ++ o ∷ []) under → done under → done (Some (o.number, true))
  climbs_first target [] o under h d = h.1 d
  climbs_first target (p ∷ os) o under h d =
      climbs_first (Some (p.number, true)) os o under h.1 d

  -- and where the other side is done too, so is where it stands
  pub climbs_other : (target : Side) (os : List OpenSplit) (o : OpenSplit) (under other : Side)
      → Climbs done target (os ++ o ∷ []) under → (done other → done o.split.under)
      → Climbs done target os other
  climbs_other target [] o under other h close = λ d. h.0 (close d)
  climbs_other target (p ∷ os) o under other h close =
      (h.0, climbs_other (Some (p.number, true)) os o under other h.1 close)

-- sides of a split
pub record IsAmong (n : ℕ) (o : OpenSplit) : Type 0 where
  pub under : IsSideAmong n o.split.under
  pub number : o.number < n

-- the same among sides that are done alike
pub record AreAlike (n : ℕ) (done other : Side → Type 0) : Type 0 where
  pub more : (side : Side) → IsSideAmong n side → done side → other side
  pub fewer : (side : Side) → IsSideAmong n side → other side → done side

pub climbs_alike : (n : ℕ) (done other : Side → Type 0) → AreAlike n done other
    → (target : Side) (os : List OpenSplit) (under : Side)
    → IsSideAmong n target → All (IsAmong n) os → IsSideAmong n under
    → Climbs done target os under → Climbs other target os under
climbs_alike n done other alike target [] under top all here h =
    λ d. alike.more target top (h (alike.fewer under here d))
climbs_alike n done other alike target (o ∷ os) under top all here h =
    let first = All-head (IsAmong n) o os all in (
      λ d. alike.more target top (h.0 (alike.fewer o.split.under first.under d)),
      climbs_alike n done other alike (Some (o.number, true)) os under first.number
          (All-tail (IsAmong n) o os all) here h.1,
    )
