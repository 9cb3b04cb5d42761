-- Precincts by number.
use Rattle.std.specs.Prelude.{◌≡◌, ◌<◌, ℕ, Some}
use Rattle.std.specs.List.{slice_get}
use Rattle.std.specs.Option.{option_map}
use Rattle.codec_terms.specs.declared.picture.Shape.{Shape}
use Rattle.codec_terms.specs.Precincts.{packet_order}
use Rattle.band_laws.specs.Places.{precinct_count}
use Rattle.packet_places.specs.declared.precinct.PrecinctAt.{PrecinctAt}

-- packet n of the component is that of this precinct, which there is
pub record IsAt (shape : Shape) (component n : ℕ) (p : PrecinctAt) : Type 0 where
  pub of_component : p.component ≡ component
  pub listed : option_map {U = ℕ × ℕ} (λ q. (q.resolution, q.number)) (slice_get (packet_order shape) n) ≡ Some (p.resolution, p.number)
  pub resolution : p.resolution < 6
  pub number : p.number < precinct_count shape p.resolution
