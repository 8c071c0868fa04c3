-- `locate::error_map` meets its contract. Assumes nothing.
use Rattle.std.proofs.Common.{rules, ◌≡◌, ◌≤◌, Err, length, sym, ◌∙◌, arith}
use lib.Seq.{length-take-le}
use Rattle.locate.proofs.Accept.{map_taken, map_walkable, mapped_is, after_is, mapped_not, after_not}
use Rattle.locate.proofs.error_map.Goals as goal

pub returns-in_err-check : goal.returns-in_err-check
returns-in_err-check g c =
    let told : c.from_residual.result ≡ Err c.in_err-check.field-0.0 = search rules in
    let e = sym c.in_err-check.ensures in
    record { value = told ∙ mapped_not _ _ e; map_after = after_not _ _ e }

pub places-need-requires : goal.places-need-requires
places-need-requires g c = let sized = (map_taken _ _ (sym c.in_ok-check.ensures)).0.sized in (sized.width_most, sized.height_most)

pub slice_bounds-fill-end : goal.slice_bounds-fill-end
slice_bounds-fill-end g c = omega (arith, c.places-need.ensures, (map_taken _ _ (sym c.in_ok-check.ensures)).1)

pub slice_bounds-fill-end-2 : goal.slice_bounds-fill-end-2
slice_bounds-fill-end-2 g c =
    let enough : c.places-need.result ≤ length c.args.map.now = omega (arith, c.places-need.ensures, (map_taken _ _ (sym c.in_ok-check.ensures)).1) in
    sym (length-take-le _ _ enough)

pub fill-requires : goal.fill-requires
fill-requires g c =
    let enough : c.places-need.result ≤ length c.args.map.now = omega (arith, c.places-need.ensures, (map_taken _ _ (sym c.in_ok-check.ensures)).1) in
    record { walkable = map_walkable _ _ (sym c.in_ok-check.ensures); map_len = length-take-le _ _ enough ∙ c.places-need.ensures }

pub tiles_along-requires : goal.tiles_along-requires
tiles_along-requires g c = (map_taken _ _ (sym c.in_ok-check.ensures)).0.sized.width_most

pub tiles_along-requires-2 : goal.tiles_along-requires-2
tiles_along-requires-2 g c = (map_taken _ _ (sym c.in_ok-check.ensures)).0.sized.height_most

pub returns : goal.returns
returns g c =
    let e = sym c.in_ok-check.ensures in
    record {
      value = mapped_is _ _ e c.tiles_along.ensures c.tiles_along-2.ensures;
      map_after = after_is _ _ e c.places-need.ensures c.fill.ensures;
    }
