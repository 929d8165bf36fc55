-- A WALK gate by gate: where it goes on, where it stops, and what one more gate writes.
use Rattle.std.proofs.Common.{◌≡◌, ℕ, zero, suc, ◌+◌, ◌*◌, ◌<◌, ◌≤◌, true, false, cond, List, [], ◌∷◌, length, drop, set, refl, ap, ◌∙◌, subst, arith}
use Rattle.std.proofs.lemmas.List.{drop_more, drop_all, get_or-take, get_or-drop, length-take}
use Rattle.std.proofs.lemmas.Bool.{lt-ltb, le-ltb}
use Rattle.groups.specs.Group.{Group, Laws}
use Rattle.groups.specs.Kept.{codes_set}
use Rattle.model.specs.Words.{at, Below}
use Rattle.model.specs.Net.{Gate, adds, shifts, maps, looks, Net, inputs, gate_at, row, row_count, table_count, first_of, second_of, limit, is_look, step}
use Rattle.model.specs.Host.{stride, steps, passing, pass, Stop, the_end, a_look, on_the_way, stop_of, stop_at}

-- the limits rise with the wires
pub limit_rise : (q r t v w : ℕ) (g : Gate) → v ≤ w → second_of g < limit q r t v g → second_of g < limit q r t w g
limit_rise q r t v w (adds f s) l h = omega arith
limit_rise q r t v w (shifts f s) l h = h
limit_rise q r t v w (maps f s) l h = h
limit_rise q r t v w (looks f s) l h = h

row_codes : (N : Net) (q r : ℕ) → Below q N.rows → r < row_count N → (k : ℕ) → k < length (row N r) → at (row N r) k < q
row_codes N q r h l k m =
    let n : k < 8 = let e = length-take 8 (drop (8 * r) N.rows) in omega arith in
    rw (get_or-take 8 (drop (8 * r) N.rows) k 0 n, get_or-drop (8 * r) N.rows k 0) (h (8 * r + k) (omega arith))

-- what a gate comes to is a code
pub step_code : {G : Group} → Laws G → (N : Net) (ws : List ℕ) (g : Gate) → N.size ≡ G.size → Below N.size N.rows → Below N.size ws
    → first_of g < length ws → second_of g < limit N.size (row_count N) (table_count N) (length ws) g → step G N (passing G) 0 ws g < N.size
step_code {G} L N ws (adds f s) e r h a b = rw e (L.add_code _ _ (rw e at (h f a)) (rw e at (h s b)))
step_code {G} L N ws (shifts f s) e r h a b = rw e (L.add_code _ _ (rw e at (h f a)) (rw e at b))
step_code {G} L N ws (maps f s) e r h a b = rw e (L.image_code (row N s) _ (row_codes N G.size s (subst (λ q. Below q N.rows) e r) b) (rw e at (h f a)))
step_code {G} L N ws (looks f s) e r h a b = let z = L.size_low in omega arith

-- how many gates a walk passes
plain : (b : ℕ) (g : Gate) (gs : List Gate) → is_look g ≡ false → stride (suc b) (g ∷ gs) ≡ suc (stride b gs)
unfolding stride
plain b (adds f s) gs e = refl
plain b (shifts f s) gs e = refl
plain b (maps f s) gs e = refl
plain b (looks f s) gs e = let z : ◌≡◌ {A = ℕ} 0 1 = cc in absurd (omega arith)

none : (b : ℕ) → stride b [] ≡ 0
unfolding stride
none b = refl

pub stops_budget : (N : Net) (k b : ℕ) → b ≡ 0 → steps N k b ≡ 0
unfolding stride
stops_budget N k b e = ap (λ b. steps N k b) e ∙ go (drop k N.gates)
  where
    go : (gs : List Gate) → stride zero gs ≡ 0
    go [] = refl
    go (g ∷ gs) = refl

pub stops_end : (N : Net) (k b : ℕ) → length N.gates ≤ k → steps N k b ≡ 0
stops_end N k b l = ap (stride b) (drop_all k N.gates l) ∙ none b

pub stops_look : (N : Net) (k b : ℕ) → k < length N.gates → is_look (gate_at N k) ≡ true → steps N k b ≡ 0
unfolding stride
stops_look N k b l e = ap (stride b) (drop_more N.gates k (adds 0 0) l) ∙ go b (gate_at N k) e
  where
    go : (b : ℕ) (g : Gate) → is_look g ≡ true → stride b (g ∷ drop (k + 1) N.gates) ≡ 0
    go zero g e = refl
    go (suc b) (adds f s) e = let z : ◌≡◌ {A = ℕ} 0 1 = cc in absurd (omega arith)
    go (suc b) (shifts f s) e = let z : ◌≡◌ {A = ℕ} 0 1 = cc in absurd (omega arith)
    go (suc b) (maps f s) e = let z : ◌≡◌ {A = ℕ} 0 1 = cc in absurd (omega arith)
    go (suc b) (looks f s) e = refl

pub goes_on : (N : Net) (k b c : ℕ) → k < length N.gates → is_look (gate_at N k) ≡ false → b ≡ suc c → steps N k b ≡ suc (steps N (k + 1) c)
goes_on N k b c l e f = ap (steps N k) f ∙ ap (stride (suc c)) (drop_more N.gates k (adds 0 0) l) ∙ plain c (gate_at N k) (drop (k + 1) N.gates) e

-- what one gate more writes
pub pass_on : (G : Group) (N : Net) (n m k : ℕ) (ws : List ℕ) → n ≡ suc m → pass G N n k ws ≡ pass G N m (k + 1) (set ws (inputs N + k) (step G N (passing G) 0 ws (gate_at N k)))
unfolding pass
pass_on G N n m k ws e =
    let f : suc k ≡ k + 1 = omega arith in
    ap (λ n. pass G N n k ws) e ∙ ap (λ j. pass G N m j (set ws (inputs N + k) (step G N (passing G) 0 ws (gate_at N k)))) f

pub pass_none : (G : Group) (N : Net) (n k : ℕ) (ws : List ℕ) → n ≡ 0 → pass G N n k ws ≡ ws
unfolding pass
pass_none G N n k ws e = ap (λ n. pass G N n k ws) e

pub below_set : (q : ℕ) (xs : List ℕ) (i v : ℕ) → Below q xs → v < q → Below q (set xs i v)
below_set q xs i v h l = codes_set (record { size = q; gens = 0; add = λ a b. 0; neg = λ a. 0; image = λ r a. 0 }) xs i v h l

-- where a walk stands
pub stop_look : (g : Gate) → is_look g ≡ true → stop_of g ≡ a_look (first_of g)
stop_look (adds f s) e = let z : ◌≡◌ {A = ℕ} 0 1 = cc in absurd (omega arith)
stop_look (shifts f s) e = let z : ◌≡◌ {A = ℕ} 0 1 = cc in absurd (omega arith)
stop_look (maps f s) e = let z : ◌≡◌ {A = ℕ} 0 1 = cc in absurd (omega arith)
stop_look (looks f s) e = refl

pub stop_plain : (g : Gate) → is_look g ≡ false → stop_of g ≡ on_the_way
stop_plain (adds f s) e = refl
stop_plain (shifts f s) e = refl
stop_plain (maps f s) e = refl
stop_plain (looks f s) e = let z : ◌≡◌ {A = ℕ} 0 1 = cc in absurd (omega arith)

pub stop_in : (N : Net) (k : ℕ) (s : Stop) → k < length N.gates → stop_of (gate_at N k) ≡ s → stop_at N k ≡ s
stop_in N k s l e = ap (λ b. cond b (stop_of (gate_at N k)) the_end) (lt-ltb k (length N.gates) l) ∙ e

pub stop_end : (N : Net) (k : ℕ) → length N.gates ≤ k → stop_at N k ≡ the_end
stop_end N k l = ap (λ b. cond b (stop_of (gate_at N k)) the_end) (le-ltb k (length N.gates) l)
