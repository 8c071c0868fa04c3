-- The planes of a call that other languages make, whose parameters come one by one. Assumes nothing.
use mathlib.Core.Path.{◌≡◌, refl}
use mathlib.Core.Bool.{Bool}
use mathlib.Core.List.{List}
use Prim.Native.Nat.{ℕ}
use Rattle.std.specs.Borrow.{Bor}
use Rattle.std.proofs.lemmas.List.{map-id}
use Rattle.plane.specs.Plane.{plane_of}
use Rattle.better.specs.Inner.Judged.{contest_of}
use Rattle.fuavelino.specs.Called.{called, contested}
use Rattle.plane.specs.Inner.Seen.{seen, planes}

pub called_is : (wide : Bool) (a b : Bor (List ℕ)) (width height stride_a stride_b depth : ℕ) → called wide a b width height stride_a stride_b depth
    ≡ planes (λ (x : ℕ). x) wide (record {
      format = record { width = width; height = height; depth = depth };
      a = record { samples = a; stride = stride_a };
      b = record { samples = b; stride = stride_b };
    })
unfolding called
called_is wide a b width height stride_a stride_b depth = rw (map-id, map-id) refl

pub contest_is : (wide : Bool) (o a b : Bor (List ℕ)) (width height stride_o stride_a stride_b depth : ℕ)
    → contested wide o a b width height stride_o stride_a stride_b depth
    ≡ contest_of (λ (x : ℕ). x) wide (record { width = width; height = height; depth = depth }) (record { samples = o; stride = stride_o })
    (record { samples = a; stride = stride_a }) (record { samples = b; stride = stride_b })
unfolding contested
contest_is wide o a b width height stride_o stride_a stride_b depth = rw (map-id, map-id, map-id) refl

-- a plane of a call
pub plane_is : (samples : Bor (List ℕ)) (stride : ℕ) → seen (λ (x : ℕ). x) (record { samples = samples; stride = stride }) ≡ plane_of samples.now stride
plane_is samples stride = rw map-id refl
