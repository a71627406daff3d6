-- A substitution rests on the terms below 256 alone. Assumes nothing.
use Rattle.std.proofs.Common.{◌≡◌, ℕ, ◌<◌, Bool, ◌&&◌, ap}
use Rattle.polynomials.specs.Polynomial.{Polynomial, product_over, substitute}
use Rattle.polynomials.proofs.Sums.{sum_cong}

pub substitute_same : (R S : Polynomial) (P : ℕ → Polynomial) → ((s : ℕ) → s < 256 → R s ≡ S s) → (s : ℕ) → substitute R P s ≡ substitute S P s
unfolding substitute
substitute_same R S P same s =
    sum_cong 256 (λ t. R t && product_over P 8 t s) (λ t. S t && product_over P 8 t s) (λ t l. ap (λ (b : Bool). b && product_over P 8 t s) (same t l))
