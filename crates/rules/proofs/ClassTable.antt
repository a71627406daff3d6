-- The table of classes: its entry at each byte is the class of the byte. Assumes nothing.
use Rattle.std.proofs.Common.{◌≡◌, ℕ, zero, suc, ◌+◌, ◌<◌, List, [], ◌∷◌, get_or, sym, ap, ◌∙◌, le_of_suc-le-suc, not-suc-le-zero, add-zero, add-suc, suc-add, zero-add}
use Rattle.rules.specs.Signs.{class, code}

-- the entries of n bytes from i on. The table of the code is these at 256, which antt computes
abbrev pub entries : ℕ → ℕ → List ℕ
entries zero i = []
entries (suc n) i = code (class i) ∷ entries n (suc i)

from : (n i k : ℕ) → k < n → get_or (entries n i) k 0 ≡ code (class (i + k))
from zero i k h = absurd (not-suc-le-zero h)
from (suc n) i zero h = ap (λ m. code (class m)) (sym (add-zero i))
from (suc n) i (suc k) h = from n (suc i) k (le_of_suc-le-suc h) ∙ ap (λ m. code (class m)) (suc-add i k ∙ sym (add-suc i k))

pub entry_at : (n k : ℕ) → k < n → get_or (entries n 0) k 0 ≡ code (class k)
entry_at n k h = from n 0 k h ∙ ap (λ m. code (class m)) (zero-add k)
