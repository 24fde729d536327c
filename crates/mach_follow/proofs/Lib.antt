mod Replayed
