-- How far a place is and the log of its evaluation, which depend on no secret byte.
use Rattle.std.proofs.Common.{◌≡◌, ℕ, zero, suc, ◌+◌, ◌<◌, ◌≤◌, Bool, true, false, cond, ◌⊎◌, List, [], ◌∷◌, ◌++◌, length, get_or, drop, sym, refl, ap, ◌∙◌, subst, inl, inr, arith, lit≤}
use Rattle.std.proofs.lemmas.List.{get_or-drop, length-drop}
use Rattle.std.proofs.lemmas.Bool.{cases_lt, lt-ltb, le-ltb, eqb-true}
use Rattle.groups.specs.Group.{Group, Codes}
use Rattle.model.specs.Words.{at, Below, mark}
use Rattle.model.specs.Net.{Gate, adds, shifts, maps, looks, Net, inputs, gate_at, is_look, ordinal}
use Rattle.model.specs.Deal.{part}
use Rattle.model.proofs.Counts.{tally_more}
use Rattle.groups.proofs.Passing.{codes_below}
use Rattle.model.proofs.Coded.{are_codes_all}
use Rattle.model.specs.Host.{Phase, empty, gathering, walking, waiting, ended, opened, Call, stock, enter, takes, walk, hear, opens, close, drops, Control, lacking, Test, or, failing, rank, is, asks, stride, steps, the_end, a_look, on_the_way, stop_of, stop_at, ask, fits}
use Rattle.groups.specs.Tested.{are_codes}
use Rattle.secrecy.specs.Evaluation.{Given, missing, entered, taken, Log, given_at, Sane}
use Rattle.secrecy.specs.Script.{refusal}

pub passed : (n : ℕ) (b : Bool) (m : ℕ) → cond b m (suc n) ≡ 0 → (b ≡ true) × (m ≡ 0)
passed n true m e = (refl, e)
passed n false m e = absurd (omega arith)

unrank : ℕ → Phase
unrank zero = empty
unrank (suc zero) = gathering
unrank (suc (suc zero)) = walking
unrank (suc (suc (suc zero))) = waiting
unrank (suc (suc (suc (suc zero)))) = ended
unrank (suc (suc (suc (suc (suc n))))) = opened

unrank_rank : (p : Phase) → unrank (rank p) ≡ p
unfolding unrank
unrank_rank empty = refl
unrank_rank gathering = refl
unrank_rank walking = refl
unrank_rank waiting = refl
unrank_rank ended = refl
unrank_rank opened = refl

pub phase_is : (p q : Phase) → is p q ≡ true → q ≡ p
phase_is p q e = sym (unrank_rank q) ∙ ap unrank (eqb-true (rank q) (rank p) e) ∙ unrank_rank p

pub codes_true : (G : Group) (net : Net) → G.size ≡ net.size → (xs : List ℕ) → are_codes net.size xs ≡ true → Codes G xs
codes_true G net same xs e = subst (λ (q : ℕ). Below q xs) (sym same) (codes_below net.size xs e)

pub codes_are : (G : Group) (net : Net) → G.size ≡ net.size → (xs : List ℕ) → Codes G xs → are_codes net.size xs ≡ true
codes_are G net same xs c = are_codes_all net.size xs (subst (λ (q : ℕ). Below q xs) same c)

pub lacking_none : (bs : List Bool) → lacking bs ≡ 0 → (i : ℕ) → i < length bs → get_or bs i false ≡ true
lacking_none [] e i l = absurd (omega arith)
lacking_none (true ∷ bs) e zero l = refl
lacking_none (true ∷ bs) e (suc i) l = lacking_none bs (omega arith) i (omega arith)
lacking_none (false ∷ bs) e i l = absurd (omega arith)

-- ---- gates

pub plain_mark : (g : Gate) → stop_of g ≡ on_the_way → mark (is_look g) ≡ 0
plain_mark (adds f s) e = refl
plain_mark (shifts f c) e = refl
plain_mark (maps f r) e = refl
plain_mark (looks f t) e = let z : ◌≡◌ {A = ℕ} 0 1 = cc in absurd (omega arith)

stride_le : (b : ℕ) (gs : List Gate) → stride b gs ≤ length gs
unfolding stride
stride_le b [] = omega arith
stride_le zero (g ∷ gs) = omega arith
stride_le (suc b) (adds f s ∷ gs) = omega (arith, stride_le b gs)
stride_le (suc b) (shifts f s ∷ gs) = omega (arith, stride_le b gs)
stride_le (suc b) (maps f s ∷ gs) = omega (arith, stride_le b gs)
stride_le (suc b) (looks f s ∷ gs) = omega arith

stride_plain : (b : ℕ) (gs : List Gate) (k : ℕ) → k < stride b gs → stop_of (get_or gs k (adds 0 0)) ≡ on_the_way
unfolding stride
stride_plain b [] k h = absurd (omega arith)
stride_plain zero (g ∷ gs) k h = absurd (omega arith)
stride_plain (suc b) (adds f s ∷ gs) zero h = refl
stride_plain (suc b) (adds f s ∷ gs) (suc k) h = stride_plain b gs k (omega arith)
stride_plain (suc b) (shifts f s ∷ gs) zero h = refl
stride_plain (suc b) (shifts f s ∷ gs) (suc k) h = stride_plain b gs k (omega arith)
stride_plain (suc b) (maps f s ∷ gs) zero h = refl
stride_plain (suc b) (maps f s ∷ gs) (suc k) h = stride_plain b gs k (omega arith)
stride_plain (suc b) (looks f s ∷ gs) k h = absurd (omega arith)

module _ (net : Net) where
  pub steps_le : (g b : ℕ) → g ≤ length net.gates → g + steps net g b ≤ length net.gates
  steps_le g b h = omega (arith, stride_le b (drop g net.gates), length-drop g net.gates)

  pub steps_plain : (g b k : ℕ) → k < steps net g b → stop_of (gate_at net (g + k)) ≡ on_the_way
  steps_plain g b k h = rw get_or-drop at (stride_plain b (drop g net.gates) k h)

  pub ordinal_more : (k : ℕ) → k < length net.gates → (g : Gate) → gate_at net k ≡ g → ordinal net (k + 1) ≡ ordinal net k + mark (is_look g)
  ordinal_more k h g e = tally_more is_look net.gates k (adds 0 0) h ∙ ap (λ g. ordinal net k + mark (is_look g)) e

  pub ordinal_walk : (g n : ℕ) → g + n ≤ length net.gates → ((k : ℕ) → k < n → stop_of (gate_at net (g + k)) ≡ on_the_way) → ordinal net (g + n) ≡ ordinal net g
  ordinal_walk g zero l p = ap (ordinal net) (omega arith)
  ordinal_walk g (suc n) l p =
      let e : g + suc n ≡ g + n + 1 = omega arith in
      let m = plain_mark (gate_at net (g + n)) (p n (omega arith)) in
      ap (ordinal net) e ∙ ordinal_more (g + n) (omega arith) (gate_at net (g + n)) refl
      ∙ omega (arith, ordinal_walk g n (omega arith) (λ k m. p k (omega arith)))

  stop_not_end : (g : Gate) → stop_of g ≡ the_end → ⊥
  stop_not_end (adds f s) e = let z : ◌≡◌ {A = ℕ} 0 1 = cc in omega arith
  stop_not_end (shifts f s) e = let z : ◌≡◌ {A = ℕ} 0 1 = cc in omega arith
  stop_not_end (maps f s) e = let z : ◌≡◌ {A = ℕ} 0 1 = cc in omega arith
  stop_not_end (looks f s) e = let z : ◌≡◌ {A = ℕ} 0 1 = cc in omega arith

  stop_look : (g : Gate) (f : ℕ) → stop_of g ≡ a_look f → (t : ℕ) × (g ≡ looks f t)
  stop_look (adds a s) f e = let z : ◌≡◌ {A = ℕ} 0 1 = cc in absurd (omega arith)
  stop_look (shifts a s) f e = let z : ◌≡◌ {A = ℕ} 0 1 = cc in absurd (omega arith)
  stop_look (maps a s) f e = let z : ◌≡◌ {A = ℕ} 0 1 = cc in absurd (omega arith)
  stop_look (looks a t) f e = let p : a ≡ f = cc in (t, ap (λ x. looks x t) p)

  pub at_end_lem : (k : ℕ) → stop_at net k ≡ the_end → length net.gates ≤ k
  at_end_lem k e = go (cases_lt k (length net.gates))
    where
      go : (k < length net.gates) ⊎ (length net.gates ≤ k) → length net.gates ≤ k
      go (inl l) = absurd (stop_not_end (gate_at net k) (rw (lt-ltb k (length net.gates) l) at e))
      go (inr l) = l

  pub at_look_lem : (k f : ℕ) → stop_at net k ≡ a_look f → (k < length net.gates) × ((t : ℕ) × (gate_at net k ≡ looks f t))
  at_look_lem k f e = go (cases_lt k (length net.gates))
    where
      go : (k < length net.gates) ⊎ (length net.gates ≤ k) → (k < length net.gates) × ((t : ℕ) × (gate_at net k ≡ looks f t))
      go (inl l) = (l, stop_look (gate_at net k) f (rw (lt-ltb k (length net.gates) l) at e))
      go (inr l) = let q : the_end ≡ a_look f = rw (le-ltb k (length net.gates) l) at e in let z : ◌≡◌ {A = ℕ} 0 1 = cc in absurd (omega arith)

-- ---- a control and a log that belong together

abbrev pub is_given : Given → Bool
is_given missing = false
is_given (entered a b) = true
is_given (taken m) = true

abbrev pub Full : Net → List Bool → Type 0
Full net given = (i : ℕ) → i < inputs net → get_or given i false ≡ true

abbrev pub Stage : Net → List Bool → ℕ → Phase → Type 0
Stage net given g empty = ⊥
Stage net given g gathering = g ≡ 0
Stage net given g walking = Full net given × (g ≤ length net.gates)
Stage net given g waiting = Full net given × (g < length net.gates) × ((f : ℕ) × (t : ℕ) × (gate_at net g ≡ looks f t))
Stage net given g ended = Full net given × (g ≡ length net.gates)
Stage net given g opened = Full net given × (g ≡ length net.gates)

abbrev pub pending : Phase → ℕ
pending empty = 0
pending gathering = 0
pending walking = 0
pending waiting = 1
pending ended = 0
pending opened = 0

pub record Kept (G : Group) (net : Net) (h : ℕ) (c : Control) (log : Log) : Type 0 where
  pub long : length c.given ≡ inputs net
  pub log_long : length log.given ≡ inputs net
  pub same : (i : ℕ) → i < inputs net → is_given (given_at log i) ≡ get_or c.given i false
  pub sane : Sane G net h log
  pub stage : Stage net c.given c.gate c.phase
  pub heard : length log.heard ≡ ordinal net c.gate
  pub shared : log.shared ≡ c.shares
  pub count : c.shares ≡ ordinal net c.gate + pending c.phase
  pub opened : c.phase ≡ opened → log.opened ≡ true

-- a log and a later one
pub record Ext (log F : Log) : Type 0 where
  pub given : (i : ℕ) → is_given (given_at log i) ≡ true → given_at F i ≡ given_at log i
  pub heard_length : length log.heard ≤ length F.heard
  pub heard : (l : ℕ) → l < length log.heard → at F.heard l ≡ at log.heard l
  pub shared : log.shared ≤ F.shared
  pub opened : log.opened ≡ true → F.opened ≡ true

pub ext_refl : (log : Log) → Ext log log
ext_refl log = record { given = λ i _. refl; heard_length = omega arith; heard = λ l _. refl; shared = omega arith; opened = λ e. e }

pub ext_trans : (a b c : Log) → Ext a b → Ext b c → Ext a c
ext_trans a b c p q =
    record {
      given = λ i e. q.given i (ap is_given (p.given i e) ∙ e) ∙ p.given i e;
      heard_length = omega (arith, p.heard_length, q.heard_length);
      heard = λ l s. q.heard l (omega (arith, p.heard_length)) ∙ p.heard l s;
      shared = omega (arith, p.shared, q.shared);
      opened = λ e. q.opened (p.opened e);
    }

-- ---- tests of bytes

-- tests that fail, whatever follows
pub failing_front : (ts more : List Test) (n : ℕ) → failing ts ≡ suc n → failing (ts ++ more) ≡ suc n
failing_front [] more n e = absurd (omega arith)
failing_front (t ∷ ts) more n e = go t.holds (failing_front ts more n) e
  where
    go : (b : Bool) → (failing ts ≡ suc n → failing (ts ++ more) ≡ suc n) → cond b (failing ts) t.number ≡ suc n → cond b (failing (ts ++ more)) t.number ≡ suc n
    go true rest e = rest e
    go false rest e = e

-- a last test that holds
pub failing_last : (ts : List Test) (n : ℕ) → failing (ts ++ or n true ∷ []) ≡ failing ts
failing_last [] n = refl
failing_last (t ∷ ts) n = ap (λ m. cond t.holds m t.number) (failing_last ts n)

pub asks_more : (net : Net) (h : ℕ) (c : Control) (call : Call) (more : List Test) → asks net h c call more ≡ asks net h c call [] ++ more
asks_more net h c (stock part) more = refl
asks_more net h c (enter w v) more = refl
asks_more net h c (takes w m) more = refl
asks_more net h c (walk b) more = refl
asks_more net h c (hear cs) more = refl
asks_more net h c (opens buf) more = refl
asks_more net h c (close cs buf) more = refl
asks_more net h c drops more = refl

-- a refusal that does not lie in the bytes has no number above 16
abbrev Small : List Test → Type 0
Small [] = Unit {0}
Small (t ∷ ts) = (t.number ≤ 16) × Small ts

failing_small : (ts : List Test) → Small ts → failing ts ≤ 16
failing_small [] s = lit≤ tt
failing_small (t ∷ ts) s = go t.holds (failing_small ts s.1)
  where
    go : (b : Bool) → failing ts ≤ 16 → cond b (failing ts) t.number ≤ 16
    go true e = e
    go false e = s.0

asks_small : (net : Net) (h : ℕ) (c : Control) (call : Call) → Small (asks net h c call [])
asks_small net h c (stock part) = (lit≤ tt, (lit≤ tt, tt))
asks_small net h c (enter w v) = (lit≤ tt, (lit≤ tt, (lit≤ tt, tt)))
asks_small net h c (takes w m) = (lit≤ tt, (lit≤ tt, (lit≤ tt, tt)))
asks_small net h c (walk b) = tt
asks_small net h c (hear cs) = (lit≤ tt, (lit≤ tt, tt))
asks_small net h c (opens buf) = (lit≤ tt, tt)
asks_small net h c (close cs buf) = (lit≤ tt, (lit≤ tt, tt))
asks_small net h c drops = tt

pub refusal_below : (net : Net) (h : ℕ) (c : Control) (call : Call) → refusal net h c call ≤ 16
unfolding refusal
refusal_below net h c call = failing_small (or 12 (fits (ask call) c.phase) ∷ asks net h c call []) (lit≤ tt, asks_small net h c call)
