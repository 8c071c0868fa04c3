-- The plane that is handed back, as other languages are told of it. Assumes nothing.
use mathlib.Core.Path.{◌≡◌, refl}
use mathlib.Core.Bool.{Bool}
use mathlib.Core.List.{List}
use Prim.Native.Nat.{ℕ}
use Rattle.std.specs.Borrow.{Bor}
use Rattle.std.proofs.lemmas.List.{map-id}
use Rattle.better.specs.Better.{winner_of}
use Rattle.better.specs.Inner.Judged.{contest_of}
use Rattle.probe.specs.Winner.{winning}

pub winner_is : (wide : Bool) (o a b : Bor (List ℕ)) (width height stride_o stride_a stride_b depth : ℕ)
    → winning wide o a b width height stride_o stride_a stride_b depth
    ≡ winner_of (contest_of (λ (x : ℕ). x) wide (record { width = width; height = height; depth = depth })
    (record { samples = o; stride = stride_o }) (record { samples = a; stride = stride_a }) (record { samples = b; stride = stride_b }))
unfolding winning
winner_is wide o a b width height stride_o stride_a stride_b depth = rw (map-id, map-id, map-id) refl
