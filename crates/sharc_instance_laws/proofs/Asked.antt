-- Each thread of the locking program asks for accesses under its mutex alone: with every fuel, whatever is answered.
use Rattle.sharc_instance_laws.proofs.{Imports.{ℕ, ℤ, zero, suc, List, [], ◌∷◌, map, refl, asks, AlwaysObeys, by}, Guarded.{AreGuarded, always_obeys}, Locking.locking}

-- The program enters one statement or expression after the other, and asks for one event after the other: each clause is a place where the fuel or the answers may come to an end.
of_worker : (thread : ℕ) (v : ℤ) (answers : List ℤ) (fuel : ℕ) → AreGuarded [] (map (by thread) (asks locking 0 v answers fuel).events)
of_worker thread v [] (suc (suc (suc (suc fuel)))) = tt
of_worker thread v (a ∷ answers) (suc (suc (suc (suc zero)))) = (tt, tt)
of_worker thread v (a ∷ answers) (suc (suc (suc (suc (suc zero))))) = (tt, tt)
of_worker thread v (a ∷ answers) (suc (suc (suc (suc (suc (suc zero)))))) = (tt, tt)
of_worker thread v (a ∷ []) (suc (suc (suc (suc (suc (suc (suc fuel))))))) = (tt, tt)
of_worker thread v (a ∷ b ∷ answers) (suc (suc (suc (suc (suc (suc (suc zero))))))) = (tt, (record { cell = refl; mode = refl; held = refl }, tt))
of_worker thread v (a ∷ b ∷ answers) (suc (suc (suc (suc (suc (suc (suc (suc zero)))))))) = (tt, (record { cell = refl; mode = refl; held = refl }, tt))
of_worker thread v (a ∷ b ∷ answers) (suc (suc (suc (suc (suc (suc (suc (suc (suc zero))))))))) = (tt, (record { cell = refl; mode = refl; held = refl }, tt))
of_worker thread v (a ∷ b ∷ []) (suc (suc (suc (suc (suc (suc (suc (suc (suc (suc fuel)))))))))) = (tt, (record { cell = refl; mode = refl; held = refl }, tt))
of_worker thread v (a ∷ b ∷ c ∷ []) (suc (suc (suc (suc (suc (suc (suc (suc (suc (suc fuel)))))))))) = (tt, (record { cell = refl; mode = refl; held = refl }, (tt, tt)))
of_worker thread v (a ∷ b ∷ c ∷ d ∷ []) (suc (suc (suc (suc (suc (suc (suc (suc (suc (suc fuel)))))))))) = (tt, (record { cell = refl; mode = refl; held = refl }, (tt, (tt, tt))))
of_worker thread v (a ∷ b ∷ c ∷ d ∷ e ∷ answers) (suc (suc (suc (suc (suc (suc (suc (suc (suc (suc fuel)))))))))) = (tt, (record { cell = refl; mode = refl; held = refl }, (tt, (tt, (tt, tt)))))
of_worker thread v answers _ = tt

of_main : (thread : ℕ) (v : ℤ) (answers : List ℤ) (fuel : ℕ) → AreGuarded [] (map (by thread) (asks locking 1 v answers fuel).events)
of_main thread v [] (suc (suc (suc (suc fuel)))) = tt
of_main thread v (a ∷ answers) (suc (suc (suc (suc zero)))) = (tt, tt)
of_main thread v (a ∷ answers) (suc (suc (suc (suc (suc zero))))) = (tt, tt)
of_main thread v (a ∷ answers) (suc (suc (suc (suc (suc (suc zero)))))) = (tt, tt)
of_main thread v (a ∷ []) (suc (suc (suc (suc (suc (suc (suc fuel))))))) = (tt, tt)
of_main thread v (a ∷ b ∷ answers) (suc (suc (suc (suc (suc (suc (suc zero))))))) = (tt, (record { cell = refl; mode = refl; held = refl }, tt))
of_main thread v (a ∷ b ∷ answers) (suc (suc (suc (suc (suc (suc (suc (suc zero)))))))) = (tt, (record { cell = refl; mode = refl; held = refl }, tt))
of_main thread v (a ∷ b ∷ answers) (suc (suc (suc (suc (suc (suc (suc (suc (suc zero))))))))) = (tt, (record { cell = refl; mode = refl; held = refl }, tt))
of_main thread v (a ∷ b ∷ answers) (suc (suc (suc (suc (suc (suc (suc (suc (suc (suc zero)))))))))) = (tt, (record { cell = refl; mode = refl; held = refl }, tt))
of_main thread v (a ∷ b ∷ []) (suc (suc (suc (suc (suc (suc (suc (suc (suc (suc (suc fuel))))))))))) = (tt, (record { cell = refl; mode = refl; held = refl }, tt))
of_main thread v (a ∷ b ∷ c ∷ []) (suc (suc (suc (suc (suc (suc (suc (suc (suc (suc (suc fuel))))))))))) = (tt, (record { cell = refl; mode = refl; held = refl }, (tt, tt)))
of_main thread v (a ∷ b ∷ c ∷ d ∷ answers) (suc (suc (suc (suc (suc (suc (suc (suc (suc (suc (suc zero))))))))))) = (tt, (record { cell = refl; mode = refl; held = refl }, (tt, (tt, tt))))
of_main thread v (a ∷ b ∷ c ∷ d ∷ answers) (suc (suc (suc (suc (suc (suc (suc (suc (suc (suc (suc (suc zero)))))))))))) = (tt, (record { cell = refl; mode = refl; held = refl }, (tt, (tt, tt))))
of_main thread v (a ∷ b ∷ c ∷ d ∷ answers) (suc (suc (suc (suc (suc (suc (suc (suc (suc (suc (suc (suc (suc zero))))))))))))) = (tt, (record { cell = refl; mode = refl; held = refl }, (tt, (tt, tt))))
of_main thread v (a ∷ b ∷ c ∷ d ∷ []) (suc (suc (suc (suc (suc (suc (suc (suc (suc (suc (suc (suc (suc (suc fuel)))))))))))))) = (tt, (record { cell = refl; mode = refl; held = refl }, (tt, (tt, tt))))
of_main thread v (a ∷ b ∷ c ∷ d ∷ e ∷ answers) (suc (suc (suc (suc (suc (suc (suc (suc (suc (suc (suc (suc (suc (suc zero)))))))))))))) = (tt, (record { cell = refl; mode = refl; held = refl }, (tt, (tt, (tt, tt)))))
of_main thread v (a ∷ b ∷ c ∷ d ∷ e ∷ answers) (suc (suc (suc (suc (suc (suc (suc (suc (suc (suc (suc (suc (suc (suc (suc zero))))))))))))))) = (tt, (record { cell = refl; mode = refl; held = refl }, (tt, (tt, (tt, tt)))))
of_main thread v (a ∷ b ∷ c ∷ d ∷ e ∷ []) (suc (suc (suc (suc (suc (suc (suc (suc (suc (suc (suc (suc (suc (suc (suc (suc fuel)))))))))))))))) = (tt, (record { cell = refl; mode = refl; held = refl }, (tt, (tt, (tt, tt)))))
of_main thread v (a ∷ b ∷ c ∷ d ∷ e ∷ f ∷ []) (suc (suc (suc (suc (suc (suc (suc (suc (suc (suc (suc (suc (suc (suc (suc (suc fuel)))))))))))))))) = (tt, (record { cell = refl; mode = refl; held = refl }, (tt, (tt, (tt, (tt, tt))))))
of_main thread v (a ∷ b ∷ c ∷ d ∷ e ∷ f ∷ g ∷ answers) (suc (suc (suc (suc (suc (suc (suc (suc (suc (suc (suc (suc (suc (suc (suc (suc fuel)))))))))))))))) = (tt, (record { cell = refl; mode = refl; held = refl }, (tt, (tt, (tt, (tt, (tt, tt)))))))
of_main thread v answers _ = tt

of_all : (thread f : ℕ) (v : ℤ) (answers : List ℤ) (fuel : ℕ) → AreGuarded [] (map (by thread) (asks locking f v answers fuel).events)
of_all thread zero v answers fuel = of_worker thread v answers fuel
of_all thread (suc zero) v answers fuel = of_main thread v answers fuel
of_all thread (suc (suc f)) v answers fuel = tt

pub obeys : AlwaysObeys locking
obeys = always_obeys locking of_all
