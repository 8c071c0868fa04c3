-- What holds where no test of SSIM refuses, and what the answer is where one does. Assumes nothing.
use mathlib.Core.Path.{◌≡◌, sym}
use mathlib.Core.Bool.{Bool, true, false}
use mathlib.Core.List.{List}
use Prim.Native.Nat.{ℕ, ◌+◌, ◌*◌, ◌/◌, ◌≤◌, ◌<◌}
use native.Mathlib.Nat.{mul-le-mul_left, mul-add, mul_comm, mul_assoc}
use native.Mathlib.Omega.{arith}
use borrow.Author.Tests.{leb-true, le-leb, lt-leb}
use lib.ListN.{length}
use Rattle.std.specs.Prelude.{Ok, Err}
use Rattle.refusal.specs.declared.Refusal.{Refusal}
use Rattle.refusal.specs.declared.Refusal.TheVariants as no
use Rattle.refusal.proofs.Chain.{halves, passed, stop, go_on}
use Rattle.plane.specs.Plane.{Planes, both}
use Rattle.plane.specs.Tests.{pair_tests, pair_refusal}
use Rattle.plane.proofs.Accept.{accepted}
use Rattle.plane.proofs.Depth.{depth_small}
use Rattle.kernel.specs.Kernel.{most_taps, lawful, lent_total}
use Rattle.window.specs.Inner.Columns.{columns_of}
use Rattle.window.proofs.Demand.{plane_small}
use Rattle.window.proofs.Grids.{bounded_most}
use Rattle.kernel.proofs.Says.{kernel_says, lent_total_lem}
use Rattle.window.proofs.Serves.{kernel_serves}
use Rattle.ssim.specs.Scratch.{next_power, scratch_places}
use Rattle.ssim.specs.Answer.{lent_tests, ssim_refusal}
use Rattle.ssim.specs.Inner.Sound.{Sound}
use Rattle.ssim.proofs.Powers.{power_reach}

-- ---- what a lawful kernel says of the count of its taps
pub taps_count : (ker : List ℕ) → lawful lent_total ker ≡ true → (1 ≤ length ker) × (length ker ≤ most_taps)
taps_count ker e = let s = kernel_says lent_total ker e in (omega (arith, s.odd), s.short)

-- ---- 7 and 8, after the planes
module _ (p : Planes) (ker : List ℕ) (lent : ℕ) where
  abbrev own : List (Refusal × Bool)
  own = lent_tests p.size.width ker lent

  -- the planes refuse
  pub planes_refuse : {r : Refusal} → Err r ≡ pair_refusal p 0 → Err r ≡ ssim_refusal p ker lent
  planes_refuse e = sym (stop (pair_tests p 0) own (sym e))

  -- they do not
  pub kernel_refuses : Ok tt ≡ pair_refusal p 0 → lawful lent_total ker ≡ false → Err no.Kernel ≡ ssim_refusal p ker lent
  unfolding lent_tests
  kernel_refuses e f = go_on (pair_tests p 0) own (sym e) (rw f)

  pub scratch_refuses : Ok tt ≡ pair_refusal p 0 → lawful lent_total ker ≡ true → lent < scratch_places p.size.width (length ker)
      → Err no.Scratch ≡ ssim_refusal p ker lent
  unfolding lent_tests
  scratch_refuses e f l = go_on (pair_tests p 0) own (sym e) (rw (f, lt-leb _ _ l))

  pub none_refuses : Ok tt ≡ pair_refusal p 0 → lawful lent_total ker ≡ true → scratch_places p.size.width (length ker) ≤ lent
      → Ok tt ≡ ssim_refusal p ker lent
  unfolding lent_tests
  none_refuses e f l = go_on (pair_tests p 0) own (sym e) (rw (f, le-leb _ _ l))

-- ---- none of them refuses

-- the columns and their margins: width + 2 off is at most width × (2 off + 1), so at most width × L
pub columns_few : (width : ℕ) (ker : List ℕ) → 1 ≤ width → length ker ≡ 2 * (length ker / 2) + 1 → columns_of ker width ≤ width * next_power (length ker)
columns_few width ker l odd =
    let off = length ker / 2 in
    let reach : 2 * off + 1 ≤ next_power (length ker) = omega (arith, power_reach (length ker)) in
    let margins : 2 * off * 1 ≤ 2 * off * width = mul-le-mul_left (2 * off) l in
    let all : width * (2 * off + 1) ≤ width * next_power (length ker) = mul-le-mul_left width reach in
    omega (arith, mul-add width (2 * off) 1, mul_comm width (2 * off))

-- five places each
room : (width : ℕ) (ker : List ℕ) → 1 ≤ width → length ker ≡ 2 * (length ker / 2) + 1 → 5 * columns_of ker width ≤ scratch_places width (length ker)
room width ker l odd = omega (arith, columns_few width ker l odd, mul_assoc 6 width (next_power (length ker)))

pub sound : (p : Planes) (ker : List ℕ) (lent : ℕ) → ssim_refusal p ker lent ≡ Ok tt → Sound p ker lent
unfolding lent_tests
sound p ker lent e =
    let h = halves (pair_tests p 0) (lent_tests p.size.width ker lent) e in
    let q = accepted p.size (both p) 0 h.0 in
    let t = passed (lent_tests p.size.width ker lent) h.1 in
    let k = kernel_says lent_total ker t.0 in
    let max_fits = plane_small p.size.wide p.size.depth q.sized.depth_most in
    record {
      taps_least = omega (arith, k.odd);
      taps_most = k.short;
      width_most = q.sized.width_most;
      height_most = q.sized.height_most;
      depth_most = omega (arith, q.sized.depth_most, depth_small p.size.wide);
      kernel = kernel_serves lent_total ker lent_total_lem t.0;
      total = sym k.sum;
      summable = record { first = bounded_most q.each.0.bounded max_fits; second = bounded_most q.each.1.0.bounded max_fits };
      lent_enough = leb-true _ _ t.1.0;
      columns_fit = room p.size.width ker q.sized.width_least k.odd;
    }
