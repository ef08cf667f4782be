mod Counted
mod Fronts
mod Listing
