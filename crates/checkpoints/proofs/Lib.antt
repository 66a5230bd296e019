mod Thinning
mod Fronts
mod Keeping
